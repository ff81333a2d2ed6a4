-- What the contract says decides the rack named and every symbol of the spare.
-- Assumes nothing.
use mathlib.Core.Path.{◌≡◌, sym, ◌∙◌, ap}
use mathlib.Core.List.{List}
use Prim.Native.Nat.{ℕ, ◌<◌}
use native.Mathlib.Decide.{ℕ_discrete}
use native.Mathlib.Omega.{arith}
use lib.ListN.{get_or}
use Rattle.algebra.specs.Shape.{Field}
use Rattle.algebra.specs.Plain.{Working}
use Rattle.algebra.proofs.Repair.{rising_places}
use Rattle.layout.specs.declared.Layout.{Layout}
use Rattle.layout.specs.Layout.{layers, groups, AdmissibleWith}
use Rattle.rule.specs.Rule.{Helpers, shared_symbol, sound_sum}
use Rattle.correcting.specs.Correcting.{ChecksHold, NoneHold, Wrong, Names, Settled}
use Rattle.correcting.proofs.Choices.{chosen_rising, helpers_some, Alike, hold_one, hold_sums}

module _ {A : Type 0} {f : Field A} (W : Working f) (l : Layout) (adm : AdmissibleWith f.order 1 l) (x : ℕ) (helpers : List ℕ) (ch : Helpers l x helpers) (shares : List ℕ) where
  -- the shares lent are alike but for one helper's
  pub record Index (meant : ℕ → ℕ → A) : Type 0 where
    pub at : ℕ
    pub inside : at < l.helpers
    pub alike : Alike W l adm x helpers ch at (shared_symbol f l shares) meant

  pub index : (meant : ℕ → ℕ → A) (rack : ℕ) → Names f l x helpers shares meant rack → Index meant
  index meant rack n = go (ℕ_discrete rack l.racks)
    where
      go : Dec (rack ≡ l.racks) → Index meant
      go (yes e) = record {
        at = 0;
        inside = helpers_some W l adm x helpers ch;
        alike = record { at = λ p i k q d. n.right i p q k (λ z. let b = ch.inside i q in omega arith) };
      }
      go (no d) =
          let w = n.wrong d in
          record {
            at = w.helper;
            inside = w.helper_in;
            alike = record {
              at = λ p i k q e. n.right i p q k (λ z. e ((rising_places (λ k. get_or helpers k 0) l.helpers l.racks (chosen_rising W l adm x helpers ch)).apart i
                  w.helper q w.helper_in (z ∙ sym w.is_rack)));
            };
          }

  -- what is meant, and so the rack named, is decided
  pub meant_one : (s t : ℕ → ℕ → A) (a b : ℕ) → Names f l x helpers shares s a → Names f l x helpers shares t b → ChecksHold f l x helpers s → ChecksHold f l x helpers t →
      (p i : ℕ) → p < groups l → i < l.helpers → s p i ≡ t p i
  meant_one s t a b n o u v =
      let i = index s a n in
      let j = index t b o in
      hold_one W l adm x helpers ch (shared_symbol f l shares) s t i.at j.at i.inside j.inside i.alike j.alike u v

  -- the rack that is named where the same shares are meant
  pub rack_one : (s t : ℕ → ℕ → A) (a b : ℕ) → Names f l x helpers shares s a → Names f l x helpers shares t b → ((p i : ℕ) → p < groups l → i < l.helpers → s p i ≡ t p i) → a ≡ b
  rack_one s t a b n o same = go (ℕ_discrete a l.racks) (ℕ_discrete b l.racks)
    where
      found : (s t : ℕ → ℕ → A) (a b : ℕ) → Names f l x helpers shares t b → ((p i : ℕ) → p < groups l → i < l.helpers → s p i ≡ t p i) → Wrong f l x helpers shares s a → a ≡ b
      found s t a b o same w = hit (ℕ_discrete (get_or helpers w.helper 0) b)
        where
          hit : Dec (get_or helpers w.helper 0 ≡ b) → a ≡ b
          hit (yes e) = sym w.is_rack ∙ e
          hit (no e) = absurd (w.differs (o.right w.helper w.group w.helper_in w.group_in e ∙ sym (same w.group w.helper w.group_in w.helper_in)))

      go : Dec (a ≡ l.racks) → Dec (b ≡ l.racks) → a ≡ b
      go (yes e) (yes g) = e ∙ sym g
      go (no e) g = found s t a b o same (n.wrong e)
      go (yes e) (no g) = sym (found t s b a n (λ p i k q. sym (same p i k q)) (o.wrong g))

  -- two ways to settle the same call name the same rack and write the same tray
  pub settled_one : (host : List ℕ) (a b : ℕ) (new new' : List ℕ) → Settled f l x helpers shares host a new → Settled f l x helpers shares host b new' →
      (a ≡ b) × ((j : ℕ) → j < layers l → get_or new j 0 ≡ get_or new' j 0)
  settled_one host a b new new' s t =
      let same = meant_one s.meant t.meant a b s.named t.named s.hold t.hold in (
        rack_one s.meant t.meant a b s.named t.named same,
        λ j k.
            s.tray j k
            ∙ ap (λ y. f.coding.val (f.ops.add y (f.ops.neg (sound_sum f l x host j)))) (hold_sums W l adm x helpers ch s.meant t.meant s.hold t.hold same j k)
            ∙ sym (t.tray j k),
      )

  -- and then 14 does not apply
  pub settled_not_none : (host : List ℕ) (a : ℕ) (new : List ℕ) → Settled f l x helpers shares host a new → ¬ (NoneHold f l x helpers shares)
  settled_not_none host a new s none = let i = index s.meant a s.named in none.changed i.at i.inside s.meant i.alike s.hold
