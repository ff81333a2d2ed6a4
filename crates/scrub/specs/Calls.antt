-- Lists of calls over one record, and what is claimed after each of them.
-- Assumes nothing.
use Rattle.std.specs.Prelude.{◌≡◌, true, List, ℕ, ◌*◌, ◌<◌, ◌≤◌, length}
use Rattle.algebra.specs.Shape.{Field}
use Rattle.layout.specs.declared.Layout.{Layout}
use Rattle.layout.specs.Layout.{trays, checks, layers}
use Rattle.codeword.specs.Codeword.{check_at, Codeword}
use Rattle.scrub.specs.declared.Walk.{Walk}
use Rattle.scrub.specs.declared.Scrubbed.{Scrubbed}
use Rattle.scrub.specs.declared.Report.{Report}
use Rattle.scrub.specs.declared.Report.TheVariants.{Begun, Unfinished, Sound, Bad, Refused}
use Rattle.scrub.specs.Scrub.{bad_layer, bad_count, least_bad, step_symbols, scrub_refusal, scrubbed, begun}

module _ {A : Type 0} (f : Field A) (l : Layout) (c : List ℕ) where
  -- Calls w r: calls begun by a reset, the last of which handed back the record w and the report r. Each is handed the record as the one before handed
  -- it back, and its answer s is any that its contract allows.
  pub data Calls : Walk → Report → Type 0 where
    reset : (w : Walk) (s : Scrubbed) → s ≡ begun f.order l w → s.report ≡ Begun → Calls s.walk s.report
    -- a call over this layout and codeword
    step : {w : Walk} {r : Report} → Calls w r → (budget : ℕ) (s : Scrubbed) → s ≡ scrubbed f l c w budget → Calls s.walk s.report
    -- a refused call, and a refused reset, are given anything besides the record
    refused_step : {w : Walk} {r : Report} → Calls w r → (l' : Layout) (c' : List ℕ) (budget e : ℕ) (s : Scrubbed) → s ≡ scrubbed f l' c' w budget →
        s.report ≡ Refused e → Calls s.walk s.report
    refused_reset : {w : Walk} {r : Report} → Calls w r → (l' : Layout) (e : ℕ) (s : Scrubbed) → s ≡ begun f.order l' w → s.report ≡ Refused e →
        Calls s.walk s.report

  -- the record holds exactly how many layers below the next are bad, and the least of them, L for none
  pub record Tells (w : Walk) : Type 0 where
    pub within : w.next ≤ layers l
    pub count : w.bad ≡ bad_count (bad_layer f l c) 0 w.next
    pub least : w.first ≡ least_bad (bad_layer f l c) 0 (layers l) w.next

  -- what each report says
  abbrev pub Says : Walk → Report → Type 0
  Says w Begun = w.next ≡ 0
  Says w Unfinished = w.next < layers l
  Says w Sound = (w.next ≡ layers l) × (w.bad ≡ 0) × Codeword f l c
  Says w Bad = (w.next ≡ layers l) × (0 < w.bad) × ¬ (Codeword f l c)
  Says w (Refused e) = 0 < e

  -- the claim after each call; over a buffer of the right length the next call is not refused where the layers that it looks at hold symbols
  pub record Walked (w : Walk) (r : Report) : Type 0 where
    pub tells : Tells w
    pub says : Says w r
    pub goes_on : length c ≡ trays l * layers l → (budget : ℕ) → step_symbols f l c w budget ≡ true → scrub_refusal f l c w budget ≡ 0

  -- a bad layer in document 02's words: some check is broken
  pub record Broken (j : ℕ) : Type 0 where
    pub at : ℕ
    pub check_in : at < checks l
    pub broken : ¬ (check_at f l c j at ≡ f.ops.zero)
