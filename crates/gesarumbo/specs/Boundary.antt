-- The numbers that cross to C: for each answer those that documents 01 and 02 give it.
-- Assumes nothing.
use Rattle.std.specs.Prelude.{◌≡◌, List, ℕ, ◌+◌, ◌-◌, ◌*◌, cond, eqb, pos}
use Rattle.layout.specs.declared.Layout.{Layout}
use Rattle.layout.specs.declared.Measured.{Measured}
use Rattle.layout.specs.declared.Measured.TheVariants.{Known as Measures, Refused as NoMeasure}
use Rattle.layout.specs.Layout.{layers}
use Rattle.codeword.specs.declared.Tested.{Tested}
use Rattle.codeword.specs.declared.Tested.TheVariants.{Sound, Bad, Refused as NoTest}
use Rattle.image.specs.Image.{edition1, header_length, own_tray, read_refusal}
use Rattle.scrub.specs.declared.Report.{Report}
use Rattle.scrub.specs.declared.Report.TheVariants.{Begun, Unfinished, Sound as FoundSound, Bad as FoundBad, Refused as NoWalk}
use Rattle.scrub.specs.declared.Scrubbed.{Scrubbed}
use Rattle.gesarumbo.specs.declared.numbers.ImageNumbers.{ImageNumbers}
use Rattle.margin.specs.declared.LossMargin.{LossMargin}
use Rattle.margin.specs.declared.LossMargin.TheVariants.{Known as Margin, Refused as NoMargin}
use Rattle.gesarumbo.specs.declared.numbers.MarginNumbers.{MarginNumbers}
use Rattle.gesarumbo.specs.declared.numbers.MeasureNumbers.{MeasureNumbers}
use Rattle.reading.specs.Reading.{part_refusal}
use Rattle.gesarumbo.specs.declared.numbers.PartNumbers.{PartNumbers}
use Rattle.gesarumbo.specs.declared.numbers.TestNumbers.{TestNumbers}
use Rattle.gesarumbo.specs.declared.numbers.ReportNumbers.{ReportNumbers}
use Rattle.gesarumbo.specs.declared.numbers.ScrubNumbers.{ScrubNumbers}

-- the refusal (0 for none), L, r and the traffic
abbrev pub measure_numbers : Measured → MeasureNumbers
measure_numbers (Measures total r cost) = record { refusal = 0; layers = total; checks = r; traffic = cost }
measure_numbers (NoMeasure e) = record { refusal = e; layers = 0; checks = 0; traffic = 0 }

-- the refusal, the verdict (1 sound, 2 bad), the layer and the check
abbrev pub test_numbers : Tested → TestNumbers
test_numbers Sound = record { refusal = 0; verdict = 1; layer = 0; check = 0 }
test_numbers (Bad j t) = record { refusal = 0; verdict = 2; layer = j.0; check = t }
test_numbers (NoTest e) = record { refusal = e; verdict = 0; layer = 0; check = 0 }

-- the refusal and the margin
abbrev pub margin_numbers : LossMargin → MarginNumbers
margin_numbers (Margin m) = record { refusal = 0; margin = m }
margin_numbers (NoMargin e) = record { refusal = e; margin = pos 0 }

-- the refusal and the report: 1 unfinished, 2 sound, 3 bad, 0 where nothing is said of the codeword
abbrev pub report_numbers : Report → ReportNumbers
report_numbers Begun = record { refusal = 0; report = 0 }
report_numbers Unfinished = record { refusal = 0; report = 1 }
report_numbers FoundSound = record { refusal = 0; report = 2 }
report_numbers FoundBad = record { refusal = 0; report = 3 }
report_numbers (NoWalk e) = record { refusal = e; report = 0 }

-- these and the record
abbrev pub scrub_numbers : Scrubbed → ScrubNumbers
scrub_numbers a = record { refusal = (report_numbers a.report).refusal; report = (report_numbers a.report).report; walk = a.walk }

-- the numbers are those of an answer that the call's contract allows
pub record Shown {Answer Numbers : Type 0} (Allowed : Answer → Type 0) (numbers : Answer → Numbers) (r : Numbers) : Type 0 where
  pub answer : Answer
  pub right : Allowed answer
  pub shown : r ≡ numbers answer

-- the refusal, the tray and where the symbols of an image of edition 1 lie in it: the L bytes behind the header
unfoldable pub image_numbers : Layout → ℕ → List ℕ → ImageNumbers
image_numbers l volume image =
    cond (eqb (read_refusal edition1 l volume (layers l) image) 0)
    (record { refusal = 0; tray = own_tray image; offset = header_length; length = layers l })
    (record { refusal = read_refusal edition1 l volume (layers l) image; tray = 0; offset = 0; length = 0 })

-- the refusal and where the part lies that a read gives while a tray is being repaired: end - first symbols of the codeword (source 1) or of the spare (source 2),
-- given the lengths of these. N is the number of powers of the field's root
unfoldable pub part_numbers : ℕ → Layout → ℕ → ℕ → ℕ → ℕ → ℕ → ℕ → ℕ → PartNumbers
part_numbers N l codeword spare lost done tray first end =
    cond (eqb (part_refusal N l codeword spare lost done tray first end) 0)
    (record { refusal = 0; source = cond (eqb tray lost) 2 1; offset = cond (eqb tray lost) first (tray * layers l + first); length = end - first })
    (record { refusal = part_refusal N l codeword spare lost done tray first end; source = 0; offset = 0; length = 0 })
