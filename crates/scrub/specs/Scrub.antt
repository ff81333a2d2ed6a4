-- Testing a codeword some layers at a time (document 02, W6): the grounds of a call, its report, and what it makes of the record.
-- Assumes nothing.
use Rattle.std.specs.Prelude.{Bool, not, cond, ◌&&◌, List, ℕ, zero, suc, ◌+◌, ◌-◌, ◌*◌, min, eqb, ltb, leb, length}
use Rattle.lists.specs.Lists.{all, unless}
use Rattle.algebra.specs.Shape.{Field}
use Rattle.layout.specs.declared.Layout.{Layout}
use Rattle.layout.specs.Layout.{trays, checks, layers, admissible}
use Rattle.range.specs.Range.{symbol_rows}
use Rattle.codeword.specs.Codeword.{check_at}
use Rattle.scrub.specs.declared.Walk.{Walk}
use Rattle.scrub.specs.declared.Scrubbed.{Scrubbed}
use Rattle.scrub.specs.declared.Report.TheVariants.{Begun, Unfinished, Sound, Bad, Refused}

-- whether layer j is bad: some check of it is not zero
unfoldable pub bad_layer : {A : Type 0} → Field A → Layout → List ℕ → ℕ → Bool
bad_layer f l c j = not (all (λ t. eqb (f.coding.val (check_at f l c j t)) (f.coding.val f.ops.zero)) (checks l))

-- how many of the layers a, .., a + k - 1 are bad
unfoldable pub bad_count : (ℕ → Bool) → ℕ → ℕ → ℕ
bad_count p a zero = 0
bad_count p a (suc k) = cond (p a) 1 0 + bad_count p (a + 1) k

-- the least bad one of them, or e where there is none
unfoldable pub least_bad : (ℕ → Bool) → ℕ → ℕ → ℕ → ℕ
least_bad p a e zero = e
least_bad p a e (suc k) = cond (p a) a (least_bad p (a + 1) e k)

-- the record after k more layers
unfoldable pub after : (ℕ → Bool) → Walk → ℕ → Walk
after p w k = record {
  next = w.next + k;
  bad = w.bad + bad_count p w.next k;
  first = cond (eqb w.bad 0) (least_bad p w.next w.first k) w.first;
}

-- the records that a call takes, L the number of layers
unfoldable pub plausible : ℕ → Walk → Bool
plausible L w = leb w.next L && leb w.bad w.next && cond (eqb w.bad 0) (eqb w.first L) (ltb w.first w.next)

-- how many layers a call looks at: the smaller of its budget and the layers left
abbrev pub step_layers : ℕ → Walk → ℕ → ℕ
step_layers L w budget = min budget (L - w.next)

-- every number in these layers is a symbol (document 02, W10)
unfoldable pub step_symbols : {A : Type 0} → Field A → Layout → List ℕ → Walk → ℕ → Bool
step_symbols f l c w budget = symbol_rows f c (trays l) (layers l) w.next (step_layers (layers l) w budget)

-- the refusal of a call; 0 for none
unfoldable pub scrub_refusal : {A : Type 0} → Field A → Layout → List ℕ → Walk → ℕ → ℕ
scrub_refusal f l c w budget =
    unless (admissible f.order l) 1
    (unless (eqb (length c) (trays l * layers l)) 2
    (unless (plausible (layers l) w && step_symbols f l c w budget) 3
    0))

-- a record with the report at it
unfoldable pub reported : ℕ → Walk → Scrubbed
reported L w = record { report = cond (ltb w.next L) Unfinished (cond (eqb w.bad 0) Sound Bad); walk = w }

-- a call; a refused one hands back the record as it came
unfoldable pub scrubbed : {A : Type 0} → Field A → Layout → List ℕ → Walk → ℕ → Scrubbed
scrubbed f l c w budget =
    cond (eqb (scrub_refusal f l c w budget) 0)
    (reported (layers l) (after (bad_layer f l c) w (step_layers (layers l) w budget)))
    (record { report = Refused (scrub_refusal f l c w budget); walk = w })

-- a reset of any record to the one that a walk begins with, over a field whose root has N powers; it looks at no symbol
unfoldable pub begun : ℕ → Layout → Walk → Scrubbed
begun N l w = cond (admissible N l) (record { report = Begun; walk = record { next = 0; bad = 0; first = layers l } }) (record { report = Refused 1; walk = w })
