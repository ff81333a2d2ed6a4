-- The library's own calls are the method: what crosses is what the share calls leave, and the spare gets what the method gives.
-- Assumes nothing.
use mathlib.Core.Path.{◌≡◌, refl, sym, ◌∙◌, ap, subst}
use mathlib.Core.List.{List, [], ◌∷◌}
use Prim.Native.Nat.{ℕ, ◌-◌, ◌*◌, ◌/◌, min}
use native.Mathlib.Nat.{one-mul}
use native.Mathlib.Omega.{arith}
use lib.ListN.{length, get_or}
use Rattle.algebra.specs.Shape.{Field}
use Rattle.layout.specs.declared.Layout.{Layout}
use Rattle.layout.specs.Layout.{layers, groups}
use Rattle.codeword.specs.Codeword.{Solvable}
use Rattle.rule.specs.Rule.{rack_part, Helpers}
use Rattle.rule.specs.Lost.{Piece}
use Rattle.share.specs.Share.{share_of}
use Rattle.repair.specs.declared.Repaired.TheVariants.{Done}
use Rattle.repair.specs.Repair.{RepairAnswer}
use Rattle.repair.proofs.Refusals.{repairable}
use Rattle.least.specs.Least.{other_trays, message, crossing, sharing}
use Rattle.least.proofs.Attained.{sharing_restores, sharing_crosses, piece_gives}

all_groups : (g n : ℕ) → g ≡ min n (n - 0) → g ≡ n
all_groups g n e = omega arith

module _ {A : Type 0} (f : Field A) (l : Layout) (ok : Solvable f l) (x : ℕ) (helpers : List ℕ) (help : Helpers l x helpers) where
  -- a helper's message is its share, as the share call leaves it
  pub share_message : (c : List ℕ) (k : ℕ) → message f l helpers (sharing f l x) c k ≡ share_of f l 0 (x / l.size) (rack_part l c (get_or helpers k 0))
  unfolding message share_of
  share_message c k = refl

  -- a repair call of all groups leaves in the spare what the method gives, and reports as crossed what crosses
  pub repair_gives : (shares host old new : List ℕ) (g c t : ℕ) → RepairAnswer f l (x ∷ []) helpers shares host 0 (groups l) old new (Done g c t) →
      (new ≡ (sharing_restores f l ok x helpers help).restore shares (other_trays l x host)) × (c ≡ crossing f l helpers (sharing f l x))
  repair_gives shares host old new g c t r =
      let fit = repairable f l (x ∷ []) helpers shares host (length old) 0 (groups l) r.accepted in
      let whole = all_groups g (groups l) r.done_is in (
        piece_gives f l ok x helpers help shares host old new fit.host_long (fit.spare_long ∙ one-mul (layers l))
            (subst (λ n. Piece f l (x ∷ []) helpers shares host 0 n old new) whole r.piece),
        r.crossed_is ∙ one-mul (l.helpers * g) ∙ ap (λ n. l.helpers * n) whole ∙ sym (sharing_crosses f l ok x helpers help),
      )
