-- What inner functions are told and give. Nothing here has to be believed.
-- Assumes nothing.
use Rattle.std.specs.Prelude.{Bool, not, cond, ◌&&◌, List, ℕ, ◌+◌, ◌*◌, ◌≤◌, eqb, ltb, get_or}
use Rattle.lists.specs.Lists.{all}
use Rattle.algebra.specs.Shape.{Field}
use Rattle.algebra.specs.Plain.{reduced}
use Rattle.layout.specs.declared.Layout.{Layout}
use Rattle.layout.specs.Layout.{layers}
use Rattle.codeword.specs.Inner.{Scannable}
use Rattle.scrub.specs.declared.Walk.{Walk}
use Rattle.scrub.specs.declared.Report.{Report}
use Rattle.scrub.specs.declared.Report.TheVariants.{Unfinished, Sound, Bad}
use Rattle.scrub.specs.Scrub.{bad_layer, after, step_layers}

-- the record that a walk begins with
unfoldable pub fresh : Layout → Walk
fresh l = record { next = 0; bad = 0; first = layers l }

-- what a call that is not refused makes of the record
unfoldable pub stepped : {A : Type 0} → Field A → Layout → List ℕ → Walk → ℕ → Walk
stepped f l c w budget = after (bad_layer f l c) w (step_layers (layers l) w budget)

-- the report at a record
unfoldable pub report_of : ℕ → Walk → Report
report_of L w = cond (ltb w.next L) Unfinished (cond (eqb w.bad 0) Sound Bad)

-- whether some check is broken in column j of the sums of r checks, which have w columns
unfoldable pub column_bad : {A : Type 0} → Field A → (w r : ℕ) → List ℕ → ℕ → Bool
column_bad f w r sums j = not (all (λ t. eqb (reduced f (get_or sums (t * w + j) 0)) 0) r)

-- the record after one more layer, which is bad or not
unfoldable pub look : Bool → Walk → Walk
look t w = record {
  next = w.next + 1;
  bad = w.bad + cond t 1 0;
  first = cond (t && eqb w.bad 0) w.next w.first;
}

-- a buffer to walk over, and a record with k layers to go at least
pub record Ahead (l : Layout) (total : ℕ) (c : List ℕ) (w : Walk) (k : ℕ) : Type 0 where
  pub scannable : Scannable l total c
  pub room : w.next + k ≤ layers l
  pub bad_in : w.bad ≤ w.next
