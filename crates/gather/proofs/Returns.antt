-- What was written comes back: gathering the images of a codeword, of which at most r were replaced, and recovering what is missing gives
-- that codeword. Over any field and its edition.
-- Assumes nothing.
use mathlib.Core.Path.{◌≡◌, refl, sym, ap, ap₂, ◌∙◌, subst}
use mathlib.Core.Bool.{Bool, true, false, cond}
use mathlib.Core.List.{List, []}
use Prim.Native.Nat.{ℕ, ◌+◌, ◌*◌, ◌/◌, ◌%◌, ◌^◌, ◌<◌, ◌≤◌}
use lib.Arith.{digits_div, digits_mod}
use lib.ListN.{length, get_or, take, drop}
use lib.Seq.{get_or-take, get_or-drop}
use Rattle.lists.specs.Lists.{absent}
use Rattle.lists.proofs.Bools.{all_true}
use Rattle.lists.proofs.Numbers.{cell_in}
use Rattle.lists.proofs.Numbered.{absent_all}
use Rattle.lists.proofs.Tables.{table_length, table_at}
use Rattle.algebra.specs.Shape.{Field}
use Rattle.layout.specs.declared.Layout.{Layout}
use Rattle.layout.specs.Layout.{trays, checks, layers, admissible, Admissible}
use Rattle.layout.proofs.Facts.{facts_admissible}
use Rattle.range.specs.Range.{symbols_from}
use Rattle.range.proofs.Symbols.{symbols_true}
use Rattle.rule.specs.Rule.{tray_part}
use Rattle.recover.specs.Recover.{kept_symbols, recover_refusal, Survivors, RecoverAnswer}
use Rattle.recover.specs.Inner.{Kept}
use Rattle.recover.proofs.Grounds.{ground_0}
use Rattle.recover.proofs.Settled.{codeword_returns}
use Rattle.image.specs.declared.Edition.{Edition}
use Rattle.image.specs.Image.{own_tray, symbol_at}
use Rattle.image.specs.Claims.{Gives}
use Rattle.image.specs.Inner.{Proper}
use Rattle.image.proofs.ReadGrounds.{given_symbols, given_tray}
use Rattle.image.proofs.RoundTrip.{round_trip}
use Rattle.gather.specs.declared.Gathered.{Gathered}
use Rattle.gather.specs.Gathering.{image_of, is_live, present, shown_symbol, gathered_codeword, missing_of, missing_trays, GatherAnswer}
use Rattle.gather.specs.Stored.{ImagesOf, Written, Stored}
use Rattle.gather.proofs.Missing.{missing_same, missing_below, missing_rising, kept_passes}
use Rattle.gather.proofs.Taking.{live_facts, live_so, symbols_table, symbol_in}
use Rattle.gather.proofs.Whole.{gather_facts}
use Rattle.gather.proofs.Present.{list_of}

-- an image as it was written is live, and has the tray's symbols
module _ (e : Edition) (g : Proper e) (l : Layout) (volume : ℕ) (small : volume < 2 ^ 32) (w images : List ℕ) (place x : ℕ)
    (written : Written e l volume w images place x) where
  gives : Gives e l volume (layers l) [] (image_of e l images place) x (tray_part l w x)
  gives = subst (λ s. Gives e l volume (layers l) [] s x (tray_part l w x)) (sym written.image)
      (round_trip e g l x volume (tray_part l w x) written.room [] small written.done)

  pub written_live : is_live e l volume x (image_of e l images place) ≡ true
  written_live =
      live_so e l volume x (image_of e l images place) gives.0
      (given_tray e l volume (layers l) (image_of e l images place) _ refl gives.0 (own_tray (image_of e l images place))
      (own_tray (image_of e l images place)) refl refl ∙ gives.1)

  pub written_symbol : (j : ℕ) → j < layers l → symbol_at e (image_of e l images place) j ≡ get_or w (x * layers l + j) 0
  unfolding tray_part
  written_symbol j h =
      sym (table_at (symbol_at e (image_of e l images place)) (layers l) j h)
      ∙ ap (λ v. get_or v j 0) (sym (symbols_table e l volume x (image_of e l images place) g gives.0)
      ∙ given_symbols e l volume (layers l) (image_of e l images place) _ refl gives.0 [] ∙ gives.2)
      ∙ get_or-take (layers l) (drop (x * layers l) w) j 0 h
      ∙ get_or-drop (x * layers l) w j 0

-- what is gathered, symbol by symbol
module _ (e : Edition) (l : Layout) (volume : ℕ) (images : List ℕ) where
  pub gathered_long : length (gathered_codeword e l volume images) ≡ trays l * layers l
  unfolding gathered_codeword
  gathered_long = table_length (λ i. shown_symbol e l volume images (i / layers l) (i % layers l)) (trays l * layers l)

  pub gathered_at : (x j : ℕ) → x < trays l → j < layers l → present e l volume images x ≡ true →
      get_or (gathered_codeword e l volume images) (x * layers l + j) 0 ≡ symbol_at e (image_of e l images x) j
  unfolding gathered_codeword shown_symbol
  gathered_at x j hx hj p =
      table_at (λ i. shown_symbol e l volume images (i / layers l) (i % layers l)) (trays l * layers l) (x * layers l + j)
      (cell_in (trays l) (layers l) x j hx hj)
      ∙ at (digits_div x hj) (digits_mod x hj)
    where
      at : (x * layers l + j) / layers l ≡ x → (x * layers l + j) % layers l ≡ j →
          shown_symbol e l volume images ((x * layers l + j) / layers l) ((x * layers l + j) % layers l) ≡ symbol_at e
          (image_of e l images x) j
      at a b = ap₂ (shown_symbol e l volume images) a b ∙ ap (λ v. cond v (symbol_at e (image_of e l images x) j) 0) p

  pub present_live : (x : ℕ) → present e l volume images x ≡ true → is_live e l volume x (image_of e l images x) ≡ true
  unfolding present
  present_live x p = p

  pub kept_present : (x : ℕ) → x < trays l → Kept (missing_trays e l volume images) x → present e l volume images x ≡ true
  unfolding missing_trays
  kept_present = kept_passes (present e l volume images) (trays l)

  -- a recovery of what is gathered is refused for the number of trays missing only, and by the checks
  module _ {A : Type 0} (f : Field A) (of : ImagesOf f e) where
    symbols_kept : kept_symbols f l (missing_trays e l volume images) (gathered_codeword e l volume images) ≡ true
    unfolding kept_symbols
    symbols_kept = all_true (λ x. cond (absent (missing_trays e l volume images) x)
        (symbols_from f (gathered_codeword e l volume images) (x * layers l) (layers l)) true) (trays l)
        (λ x h. go x h (absent (missing_trays e l volume images) x) refl)
      where
        go : (x : ℕ) → x < trays l → (b : Bool) → absent (missing_trays e l volume images) x ≡ b →
            cond (absent (missing_trays e l volume images) x)
            (symbols_from f (gathered_codeword e l volume images) (x * layers l) (layers l)) true ≡ true
        go x h false z = ap (λ b. cond b (symbols_from f (gathered_codeword e l volume images) (x * layers l) (layers l)) true) z
        go x h true z =
            ap (λ b. cond b (symbols_from f (gathered_codeword e l volume images) (x * layers l) (layers l)) true) z
            ∙ sym (symbols_true f (gathered_codeword e l volume images) (x * layers l) (layers l) (λ j b.
            let p = kept_present x h (λ k q y. absent_all (missing_trays e l volume images) x z k q (sym y)) in
            subst (λ v. v < f.coding.size) (sym (gathered_at x j h b p))
            (subst (λ v. symbol_at e (image_of e l images x) j < v) of.size_is (in_range_lem x j b p))))
          where
            in_range_lem : (x j : ℕ) → j < layers l → present e l volume images x ≡ true → symbol_at e (image_of e l images x) j < e.size
            in_range_lem x j b p = symbol_in e l volume x (image_of e l images x) of.proper
                (live_facts e l volume x (image_of e l images x) (present_live x p)).0 j b

    pub accepted_then : Admissible e.order l → length (missing_trays e l volume images) ≤ checks l →
        recover_refusal f l (missing_trays e l volume images) (gathered_codeword e l volume images) ≡ 0
    unfolding missing_trays
    accepted_then adm few =
        sym (ground_0 f l (missing_trays e l volume images) (gathered_codeword e l volume images)
        (ap (λ n. admissible n l) (sym of.order_is) ∙ sym (facts_admissible e.order l adm)) gathered_long
        (missing_below (present e l volume images) (trays l)) symbols_kept (missing_rising (present e l volume images) (trays l)) few)

-- ---- back to the codeword
module _ {A : Type 0} (f : Field A) (e : Edition) (of : ImagesOf f e) (l : Layout) (volume : ℕ) (w images : List ℕ) (kept : ℕ → Bool)
    (s : Stored f e l volume w images kept) where
  same_set : (x : ℕ) → x < trays l → present e l volume images x ≡ kept x
  unfolding present
  same_set x h = go (kept x) refl
    where
      go : (b : Bool) → kept x ≡ b → is_live e l volume x (image_of e l images x) ≡ kept x
      go true z = written_live e of.proper l volume s.volume_in w images x x (s.written x h z) ∙ sym z
      go false z = s.replaced x h z ∙ sym z

  -- the trays missing are those that were replaced
  pub missing_are : missing_trays e l volume images ≡ missing_of kept (trays l)
  unfolding missing_trays
  missing_are = missing_same (present e l volume images) kept (trays l) same_set

  survivors : Survivors l (missing_trays e l volume images) (gathered_codeword e l volume images) w
  survivors = record {
    long = s.codeword.long ∙ sym (gathered_long e l volume images);
    same = λ x j hx hj k.
        let p = kept_present e l volume images x hx k in
        sym (gathered_at e l volume images x j hx hj p
        ∙ written_symbol e of.proper l volume s.volume_in w images x x (s.written x hx (sym (same_set x hx) ∙ p)) j hj);
  }

  -- gathering and then recovering the trays missing gives back the codeword
  pub codeword_back : (c m d k : List ℕ) (r : Gathered) → GatherAnswer e l volume images c m d k r → r.refusal ≡ 0 →
      (z : List ℕ) (n : ℕ) → RecoverAnswer f l (take r.count k) d z n →
      (n ≡ 0) × (z ≡ w) × (take r.count k ≡ missing_of kept (trays l))
  codeword_back c m d k r g q z n a =
      let list = list_of e l volume images c m d k r g q in
      let adm = (gather_facts e l volume images c m (sym g.answer ∙ q)).0 in
      let b = subst (λ v. RecoverAnswer f l v (gathered_codeword e l volume images) z n) list
      (subst (λ v. RecoverAnswer f l (take r.count k) v z n) (g.codeword_is q) a) in
      let few = subst (λ v. length v ≤ checks l) (sym missing_are) s.few in
      let back = codeword_returns f l (missing_trays e l volume images) (gathered_codeword e l volume images) z n b
      (accepted_then e l volume images f of adm few) w s.codeword survivors in
      (back.0, back.1, list ∙ missing_are)
