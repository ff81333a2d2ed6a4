-- Reading a run of layers of a tray while a lost tray is being repaired, of whose groups the first so many are done.
-- Assumes nothing.
use Rattle.std.specs.Prelude.{cond, not, ◌&&◌, ◌||◌, List, [], ℕ, ◌+◌, ◌-◌, ◌*◌, eqb, leb, ltb, length, take, drop}
use Rattle.lists.specs.Lists.{unless, all}
use Rattle.layout.specs.declared.Layout.{Layout}
use Rattle.layout.specs.Layout.{trays, layers, groups, admissible_with}
use Rattle.rule.specs.Rule.{group_at}

-- the refusal of a read in a field whose root has N powers, given the lengths of the codeword and the spare; 0 for none. No symbol is looked at. Only repair in pieces,
-- with E = 0, is read from. Ground 3: both trays of the layout, at most L/s groups done, and a run that lies in 0 .. L and does not end before it begins. Ground 13: the
-- store has the trays that are not lost; of the lost one, every layer asked for, first .. end - 1, has to be in a done group of its rack
unfoldable pub part_refusal : ℕ → Layout → ℕ → ℕ → ℕ → ℕ → ℕ → ℕ → ℕ → ℕ
part_refusal N l codeword spare lost done tray first end =
    unless (admissible_with N 0 l) 1
    (unless (eqb codeword (trays l * layers l) && eqb spare (layers l)) 2
    (unless (ltb lost (trays l) && ltb tray (trays l) && leb done (groups l) && leb first end && leb end (layers l)) 3
    (unless (not (eqb tray lost) || all (λ i. ltb (group_at l lost (first + i)) done) (end - first)) 13
    0)))

-- the part that is given: the run of the spare for the lost tray, of the codeword for any other, and none with a refusal
unfoldable pub part_given : ℕ → Layout → List ℕ → List ℕ → ℕ → ℕ → ℕ → ℕ → ℕ → List ℕ
part_given N l codeword spare lost done tray first end =
    cond (eqb (part_refusal N l (length codeword) (length spare) lost done tray first end) 0)
    (cond (eqb tray lost) (take (end - first) (drop first spare)) (take (end - first) (drop (tray * layers l + first) codeword)))
    []
