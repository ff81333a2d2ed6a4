-- Shares that the share calls wrote, laid one after another, are the shares of the racks.
-- Assumes nothing.
use mathlib.Core.Path.{◌≡◌, refl, sym, ap, ◌∙◌}
use mathlib.Core.List.{List, [], ◌∷◌}
use Prim.Native.Nat.{ℕ, zero, suc, ◌+◌, ◌*◌, ◌≤◌, ◌<◌}
use native.Mathlib.Nat.{mul_assoc, add-mul}
use native.Mathlib.Omega.{arith}
use lib.ListN.{get_or, take, drop}
use lib.Seq.{get_or-take, get_or-drop, take-take, drop-drop}
use Rattle.lists.proofs.Tables.{table_at}
use Rattle.algebra.specs.Shape.{Field, FieldLaws}
use Rattle.layout.specs.declared.Layout.{Layout}
use Rattle.layout.specs.Layout.{groups}
use Rattle.kernel.proofs.Rows.{row_before}
use Rattle.rule.specs.Rule.{share_symbol}
use Rattle.rule.specs.Lost.{sent_symbol}
use Rattle.share.specs.Share.{share_of}
use Rattle.share.specs.Many.{shares_of}
use Rattle.share.proofs.Weights.{shares_row}

pub sent : {A : Type 0} (f : Field A) → FieldLaws f → (l : Layout) (e h : ℕ) (shares rack : List ℕ) (k m : ℕ) →
    take (groups l) (drop ((k * e + m) * groups l) shares) ≡ share_of f l m h rack → (p : ℕ) → p < groups l → sent_symbol f l e shares m p k ≡ share_symbol f l m h rack p
unfolding sent_symbol share_of
sent f laws l e h shares rack k m q p hp =
    ap f.coding.elem (sym (get_or-take (groups l) (drop ((k * e + m) * groups l) shares) p 0 hp ∙ get_or-drop ((k * e + m) * groups l) shares p 0)
    ∙ ap (λ o. get_or o p 0) q ∙ table_at _ (groups l) p hp)
    ∙ laws.coded.elem_val (share_symbol f l m h rack p)

-- a part of the front of a list is one of the list
front_part : (n m len : ℕ) (xs : List ℕ) → m + n ≤ len → take n (drop m (take len xs)) ≡ take n (drop m xs)
front_part n zero len xs h = take-take n len xs (omega arith)
front_part n (suc m) zero xs h = absurd (omega arith)
front_part n (suc m) (suc len) [] h = refl
front_part n (suc m) (suc len) (x ∷ xs) h = front_part n m len xs (omega arith)

-- where the k-th helper's e shares are those of its rack, each lies where the repair looks for it
pub sent_many : {A : Type 0} (f : Field A) (l : Layout) (e h : ℕ) (shares rack : List ℕ) (k m : ℕ) → m < e → take (e * groups l) (drop (k * (e * groups l)) shares) ≡ shares_of f l e h rack →
    take (groups l) (drop ((k * e + m) * groups l) shares) ≡ share_of f l m h rack
sent_many f l e h shares rack k m lt q =
    ap (λ n. take (groups l) (drop n shares)) (add-mul (k * e) m (groups l) ∙ ap (λ n. n + m * groups l) (mul_assoc k e (groups l)))
    ∙ ap (take (groups l)) (sym (drop-drop (m * groups l) (k * (e * groups l)) shares))
    ∙ sym (front_part (groups l) (m * groups l) (e * groups l) (drop (k * (e * groups l)) shares) (row_before m e (groups l) lt))
    ∙ ap (λ s. take (groups l) (drop (m * groups l) s)) q
    ∙ shares_row f l e m h rack lt
