-- The tray is exact from what the share calls left, whatever one helper sent.
-- Assumes nothing.
use mathlib.Core.Path.{◌≡◌, sym, ◌∙◌, ap}
use mathlib.Core.Bool.{cond}
use mathlib.Core.List.{List}
use Prim.Native.Nat.{ℕ, ◌+◌, ◌*◌, ◌/◌, ◌≤◌, ◌<◌}
use native.Mathlib.Nat.{one-mul}
use native.Mathlib.Decide.{ℕ_discrete}
use native.Mathlib.Omega.{arith}
use lib.ListN.{length, get_or, take, drop, length-drop}
use lib.Seq.{get_or-take, get_or-drop, length-take-le}
use borrow.Author.Tests.{eq-eqb, ne_eqb}
use Rattle.lists.proofs.Tables.{table_at}
use Rattle.algebra.specs.Shape.{Field}
use Rattle.algebra.specs.Plain.{Working}
use Rattle.kernel.proofs.Rows.{row_before}
use Rattle.layout.specs.declared.Layout.{Layout}
use Rattle.layout.specs.Layout.{layers, groups, traffic, AdmissibleWith}
use Rattle.layout.proofs.Facts.{facts_admissible, fits}
use Rattle.rule.specs.Rule.{rack_part, tray_part, share_symbol, shared_symbol}
use Rattle.rule.proofs.Racks.{rack_long}
use Rattle.share.specs.Share.{share_of}
use Rattle.share.specs.One.{share_refusal, share_buffer}
use Rattle.share.proofs.Refusals.{rack_symbols, some_seen, ground_0, rack_grounds_lem, one_few, one_refusal}
use Rattle.share.proofs.Weights.{one_buffer}
use Rattle.correcting.specs.declared.Corrected.{Corrected}
use Rattle.correcting.specs.Correcting.{report, Names, OneWrong, CorrectingAnswer}
use Rattle.correcting.specs.Calls.{CalledWrong}
use Rattle.correcting.proofs.Choices.{host_in}
use Rattle.correcting.proofs.Unique.{correcting_exact}

module _ {A : Type 0} {f : Field A} (W : Working f) (l : Layout) (adm : AdmissibleWith f.order 1 l) (x : ℕ) (helpers shares host c : List ℕ) (k : ℕ)
    (g : CalledWrong f l x helpers shares host c k) where
  abbrev h : ℕ
  h = x / l.size

  module _ (i : ℕ) (hi : i < l.helpers) (other : ¬ (i ≡ k)) where
    abbrev rack : List ℕ
    rack = rack_part l c (get_or helpers i 0)

    -- the helper's share fills its place among the shares
    place_in : groups l + i * groups l ≤ length shares
    place_in = let r = row_before i l.helpers (groups l) hi in omega (arith, g.setting.shares_long)

    block_long : length (take (groups l) (drop (i * groups l) shares)) ≡ groups l
    block_long = length-take-le (groups l) (drop (i * groups l) shares) (rw (length-drop (i * groups l) shares) (let p = place_in in omega arith))

    -- as the call for one share leaves it
    share_left : take (groups l) (drop (i * groups l) shares) ≡ share_buffer f l h (get_or helpers i 0) rack (g.room i)
    share_left = g.share i hi other ∙ one_buffer f l W h (get_or helpers i 0) rack (g.room i)

    -- no such call is refused
    call_done : share_refusal f l h (get_or helpers i 0) rack (length (g.room i)) ≡ 0
    call_done = go (ℕ_discrete _ 0)
      where
        fits_then : length (g.room i) ≡ groups l → share_refusal f l h (get_or helpers i 0) rack (length (g.room i)) ≡ 0
        fits_then r =
            sym (one_refusal W l h (get_or helpers i 0) _ _)
            ∙ sym (rack_grounds_lem W l 1 h (get_or helpers i 0) _ _)
            ∙ sym (ground_0 f.order l 1 l.size h (get_or helpers i 0) _ _ _ (sym (facts_admissible f.order l adm.admissible))
            (rack_long l c (get_or helpers i 0) (g.setting.help.inside i hi) g.setting.codeword.long)
            (r ∙ sym (one-mul (groups l))) (host_in W l adm x helpers g.setting.help) (g.setting.help.inside i hi)
            (sym (some_seen 1 _ (λ q. omega arith)) ∙ rack_symbols f l c g.setting.codeword (get_or helpers i 0) (g.setting.help.inside i hi))
            (sym (fits l 1 (omega arith) (one_few l adm.admissible.cabinet))) (λ q. g.setting.help.other i hi (sym q)))

        left : ¬ (share_refusal f l h (get_or helpers i 0) rack (length (g.room i)) ≡ 0) → g.room i ≡ share_buffer f l h (get_or helpers i 0) rack (g.room i)
        left d = unfold share_buffer in simp (ne_eqb (share_refusal f l h (get_or helpers i 0) rack (length (g.room i))) 0 d)

        go : Dec (share_refusal f l h (get_or helpers i 0) rack (length (g.room i)) ≡ 0) → share_refusal f l h (get_or helpers i 0) rack (length (g.room i)) ≡ 0
        go (yes z) = z
        go (no d) = fits_then (ap length (left d ∙ sym share_left) ∙ block_long)

    share_is : (p : ℕ) → p < groups l → shared_symbol f l shares p i ≡ share_symbol f l 0 h rack p
    unfolding shared_symbol share_buffer share_of
    share_is p hp =
        ap f.coding.elem (
        sym (get_or-take (groups l) (drop (i * groups l) shares) p 0 hp ∙ get_or-drop (i * groups l) shares p 0)
        ∙ ap (λ s. get_or s p 0) (share_left ∙ ap (λ b. cond b (share_of f l 0 h rack) (g.room i)) (eq-eqb _ 0 call_done))
        ∙ table_at _ (groups l) p hp)
        ∙ W.field.coded.elem_val _

  pub called_wrong : OneWrong f l x helpers shares host c k
  called_wrong = record { setting = g.setting; helper_in = g.helper_in; right = λ i p hi hp d. share_is i hi d p hp }

  -- so the tray comes back exactly from what the share calls left, and the k-th helper's rack is named exactly when what it sent is not its share
  pub exact_by_calls : (old new : List ℕ) → length old ≡ layers l → (a : Corrected) → CorrectingAnswer f l x helpers shares host old new a →
      ((report a).refusal ≡ 0) × ((report a).crossed ≡ traffic l)
      × Names f l x helpers shares (λ p i. share_symbol f l 0 (x / l.size) (rack_part l c (get_or helpers i 0)) p) (report a).rack × (new ≡ tray_part l c x)
  exact_by_calls = correcting_exact W l adm x helpers shares host c k called_wrong
