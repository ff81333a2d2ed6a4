-- The weights, and the e shares in one buffer: the share of each weight m lies in its place, and with e = 1 the buffer and the calls are those of one share
-- of weight 0.
-- Assumes nothing.
use mathlib.Core.Bool.{cond}
use mathlib.Core.Path.{◌≡◌, sym, ap, ap₂, ◌∙◌}
use mathlib.Core.List.{List}
use Prim.Native.Nat.{ℕ, ◌+◌, ◌*◌, ◌/◌, ◌<◌}
use native.Mathlib.Nat.{one-mul, mul_assoc, mul_comm, div-eq_of_lt, mod-eq_of_lt}
use native.Mathlib.Omega.{arith}
use lib.Arith.{digits_div, digits_mod}
use lib.Dec.{eqb}
use lib.ListN.{length, get_or, take, drop, length-drop}
use lib.Seq.{get_or-take, get_or-drop, length-take-le}
use Rattle.lists.specs.Lists.{table}
use Rattle.lists.proofs.Numbers.{cell_in}
use Rattle.lists.proofs.Tables.{table_at, table_length, is_table}
use Rattle.algebra.specs.Sum.{pow}
use Rattle.algebra.specs.Shape.{Field, FieldLaws}
use Rattle.algebra.specs.Plain.{Working}
use Rattle.algebra.specs.Points.{place}
use Rattle.algebra.proofs.Pow.{pow_mul}
use Rattle.layout.specs.declared.Layout.{Layout}
use Rattle.layout.specs.Layout.{groups}
use Rattle.kernel.proofs.Rows.{row_before}
use Rattle.codeword.specs.Codeword.{shape_of}
use Rattle.rule.specs.Rule.{share_symbol}
use Rattle.share.specs.Share.{share_of, part_symbol}
use Rattle.share.specs.One.{share_buffer, fed, add_buffer}
use Rattle.share.specs.Many.{shares_of, shares_buffer, part_at, fed_many, fed_buffer}
use Rattle.share.proofs.Refusals.{one_refusal, one_add_refusal}

row_of : (F G : ℕ → ℕ) (e n m : ℕ) → m < e → ((p : ℕ) → p < n → F (m * n + p) ≡ G p) → take n (drop (m * n) (table F (e * n))) ≡ table G n
row_of F G e n m h same =
    is_table _ G n
    (length-take-le n (drop (m * n) (table F (e * n))) (rw (length-drop (m * n) (table F (e * n)), table_length F (e * n)) (omega (arith, row_before m e n h))))
    (λ p k. get_or-take n (drop (m * n) (table F (e * n))) p 0 k ∙ get_or-drop (m * n) (table F (e * n)) p 0 ∙ table_at F (e * n) (m * n + p) (cell_in e n m p h k) ∙ same p k)

pub one_row : (F G : ℕ → ℕ) (n : ℕ) → ((p : ℕ) → p < n → F p ≡ G p) → table F (1 * n) ≡ table G n
one_row F G n same = is_table _ G n (table_length F (1 * n) ∙ one-mul n) (λ p k. table_at F (1 * n) p (rw (one-mul n) k) ∙ same p k)

module _ {A : Type 0} (f : Field A) (l : Layout) where
  open f.ops use {add}

  -- the tray at place g counts times z to the power g·m·(N/u), where N is 255 for bytes
  pub weight_is : FieldLaws f → (g m : ℕ) → pow f.ops (place (shape_of f l) g) m ≡ pow f.ops f.root (g * m * (f.order / l.size))
  unfolding place
  weight_is laws g m =
      ap (λ y. pow f.ops y m) (sym (pow_mul f.ops laws.laws f.root (f.order / l.size) g))
      ∙ sym (pow_mul f.ops laws.laws f.root (f.order / l.size * g) m)
      ∙ ap (pow f.ops f.root) (mul_assoc (f.order / l.size) g m ∙ mul_comm (f.order / l.size) (g * m))

  -- the share of weight m lies after those of lower weights
  pub shares_row : (e m h : ℕ) (rack : List ℕ) → m < e → take (groups l) (drop (m * groups l) (shares_of f l e h rack)) ≡ share_of f l m h rack
  unfolding shares_of share_of
  shares_row e m h rack k =
      row_of _ _ e (groups l) m k (λ p q. ap₂ (λ y z. f.coding.val (share_symbol f l y h rack z)) (digits_div m q) (digits_mod m q))

  -- what a tray adds to it is its part of weight m
  pub fed_row : (e m h x : ℕ) (symbols held : List ℕ) → m < e →
      take (groups l) (drop (m * groups l) (fed_many f l e h x symbols held)) ≡ fed f l m h x symbols (take (groups l) (drop (m * groups l) held))
  unfolding fed_many part_at fed
  fed_row e m h x symbols held k = row_of _ _ e (groups l) m k (λ p q.
      ap f.coding.val (ap₂ add
      (ap f.coding.elem (sym (get_or-take (groups l) (drop (m * groups l) held) p 0 q ∙ get_or-drop (m * groups l) held p 0)))
      (ap₂ (λ y z. part_symbol f l y h x symbols z) (digits_div m q) (digits_mod m q))))

  -- with e = 1 the symbols are those of the calls for one share
  pub one_shares : (h : ℕ) (rack : List ℕ) → shares_of f l 1 h rack ≡ share_of f l 0 h rack
  unfolding shares_of share_of
  one_shares h rack = one_row _ _ (groups l) (λ p q. ap₂ (λ y z. f.coding.val (share_symbol f l y h rack z)) (div-eq_of_lt q) (mod-eq_of_lt q))

  pub one_fed : (h x : ℕ) (symbols held : List ℕ) → fed_many f l 1 h x symbols held ≡ fed f l 0 h x symbols held
  unfolding fed_many part_at fed
  one_fed h x symbols held = one_row _ _ (groups l) (λ p q.
      ap (λ y. f.coding.val (add (f.coding.elem (get_or held p 0)) y)) (ap₂ (λ y z. part_symbol f l y h x symbols z) (div-eq_of_lt q) (mod-eq_of_lt q)))

  pub one_buffer : Working f → (host helper : ℕ) (rack out : List ℕ) → shares_buffer f l 1 host helper rack out ≡ share_buffer f l host helper rack out
  unfolding shares_buffer share_buffer
  one_buffer W host helper rack out = ap₂ (λ n s. cond (eqb n 0) s out) (one_refusal W l host helper rack (length out)) (one_shares host rack)

  pub one_add_buffer : Working f → (host x : ℕ) (symbols held : List ℕ) → fed_buffer f l 1 host x symbols held ≡ add_buffer f l host x symbols held
  unfolding fed_buffer add_buffer
  one_add_buffer W host x symbols held = ap₂ (λ n s. cond (eqb n 0) s held) (one_add_refusal W l host x symbols held) (one_fed host x symbols held)
