-- Every layout that is admissible for a field is usable over it, and with E = 0 solvable.
-- Assumes nothing.
use native.Mathlib.Omega.{arith}
use Rattle.algebra.specs.Shape.{Field}
use Rattle.algebra.specs.Plain.{Working}
use Rattle.layout.specs.declared.Layout.{Layout}
use Rattle.layout.specs.Layout.{Admissible, AdmissibleWith}
use Rattle.layout.proofs.Facts.{bounds}
use Rattle.layout.proofs.Numbers.{room, groups_are, total_plain, enough}
use Rattle.codeword.specs.Codeword.{Usable, Solvable}

module _ {A : Type 0} {f : Field A} (W : Working f) (l : Layout) where
  pub usable : Admissible f.order l → Usable f l
  usable q =
      let a = q.cabinet in
      record {
        field = W.field;
        fits = record {
          laws = W.field.laws;
          root = W.field.root;
          some_racks = omega arith;
          some_places = (bounds l a).size_low;
          some_digits = (bounds l a).digits_low;
          divides = q.size_ok;
          room = room l a f.order W.room q.size_ok;
        };
      }

  pub solvable : AdmissibleWith f.order 0 l → Solvable f l
  solvable q =
      let a = q.admissible.cabinet in
      record {
        usable = usable q.admissible;
        groups_are = groups_are l a;
        total = total_plain l a q.errors_are;
        few = a.helpers_high;
        enough = enough l a;
      }
