-- Everything that the library promises, in the documents' order and words, about the calls' own contracts. READ THIS FIRST, then down only as far as you doubt.
-- What holds in both fields is claimed once, over any field f and the edition ed of its images; `claims_256` proves it for the field of 256 with edition 1,
-- `claims_257` for the whole numbers modulo 257 with edition 2, both for every layout (proofs/Claims.antt). Beside this page, and cited by it: Looks.antt, what a call
-- looks at, and Boundary.antt, what C is handed; Box.antt is the page of the sixteen-tray box. A sentence of the demands, of document 01 or of a request stands in quotes
-- above what it says of the product. An answer that is an enum is spoken of by its numbers (`measure_numbers`, `test_numbers`, `report` and the others).
-- Assumes nothing.
use Rattle.std.specs.Prelude.{◌≡◌, true, cond, List, [], ◌∷◌, ◌↔◌, ◌⊎◌, ℕ, ◌+◌, ◌-◌, ◌*◌, ◌/◌, ◌%◌, ◌^◌, ◌≤◌, ◌<◌, min, eqb, ltb, pos, neg_ℤ, ◌-ℤ◌, length, get_or, take, drop, replicate, ◌≤ℤ◌}
use Rattle.std.specs.Int.Bits.{bit_xor}
use Rattle.lists.specs.Lists.{table}
use Rattle.algebra.specs.Sum.{sum, pow}
use Rattle.algebra.specs.Coding.{InRange}
use Rattle.algebra.specs.Shape.{Field, FieldLaws}
use Rattle.algebra.specs.Lagrange.{Distinct, check}
use Rattle.algebra.specs.Erasure.{choose}
use Rattle.algebra.specs.Points.{point, place}
use Rattle.algebra.specs.Layers.{digit, group_of}
use Rattle.algebra.specs.Cabinet.{group_sum, Solution}
use Rattle.symbol.specs.Arithmetic.{◌⊗◌}
use Rattle.symbol.specs.Elem.{gf256}
use Rattle.symbol257.specs.Elem.{gf257}
use Rattle.layout.specs.declared.Layout.{Layout}
use Rattle.layout.specs.Layout.{trays, whole_racks, parity_racks, checks, digits, layers, groups, traffic, admissible, admissible_with, measured, Cabinet}
use Rattle.codeword.specs.declared.Tested.{Tested}
use Rattle.codeword.specs.Codeword.{shape_of, symbol_at, point_at, check_at, Codeword}
use Rattle.codeword.specs.Test.{test_refusal, FirstBad, TestAnswer}
use Rattle.store.specs.Store.{store_refusal, Begins, Stores, StoreAnswer}
use Rattle.recover.specs.Recover.{recover_refusal, Survivors, RecoverAnswer}
use Rattle.rule.specs.Rule.{rack_part, tray_part, Helpers, group_at, Outside, share_symbol, RuledOne}
use Rattle.rule.specs.Lost.{first_lost, lost_part, Losses, sent_symbol, SoundAlike, Ruled, One, Of}
use Rattle.share.specs.Share.{share_of}
use Rattle.share.specs.Many.{shares_refusal, shares_buffer, many_refusal, many_buffer, fed_refusal, fed_buffer, add_many_refusal, add_many_buffer, part_at}
use Rattle.share.specs.One.{share_refusal, share_buffer, add_refusal, add_buffer}
use Rattle.share.specs.Feeds.{count, odd, cleared, Feeds}
use Rattle.repair.specs.declared.Repaired.{Repaired}
use Rattle.repair.specs.Repair.{repair_refusal, report, RepairAnswer}
use Rattle.repair.specs.Calls.{Calls, Cut}
use Rattle.repair.specs.Exact.{Called}
use Rattle.repair.specs.One.{CutOne, CalledOne}
use Rattle.reading.specs.Reading.{part_refusal, part_given}
use Rattle.correcting.specs.declared.Corrected.{Corrected}
use Rattle.correcting.specs.Correcting.{correcting_refusal, NoneHold, Names, CorrectingAnswer, report as corrected}
use Rattle.correcting.specs.Calls.{CalledWrong}
use Rattle.card.specs.Card.{Right, OneCard}
use Rattle.cards.specs.Cards.{print_ground, test_ground, repair_ground, PrintAnswer, CardAnswer, TestAnswer as CardTest}
use Rattle.cards.specs.CardCalls.{CardCalls}
use Rattle.least.specs.Least.{message, sharing, TrulyLeast}
use Rattle.image.specs.declared.Edition.{Edition}
use Rattle.image.specs.Image.{image_length, demonstration, edition1, edition2, own_state, own_volume, well_formed, write_refusal, write_buffer, read_refusal, read_tray, read_symbols}
use Rattle.image.specs.Claims.{LiveOnly, DemonstrationRefused, AcceptedExactly, FormedExactly, OtherRefused}
use Rattle.margin.specs.Margin.{margin_of, margin_refusal, margin_answer}
use Rattle.scrub.specs.declared.Walk.{Walk}
use Rattle.scrub.specs.declared.Report.{Report}
use Rattle.scrub.specs.Scrub.{bad_layer, scrub_refusal, scrubbed, begun}
use Rattle.scrub.specs.Calls.{Calls as Walks, Walked}
use Rattle.gesarumbo.specs.Boundary.{measure_numbers, test_numbers, margin_numbers, scrub_numbers}
use Rattle.bench_book.specs.Table.{AllHold, bench_book}
use Rattle.claims.specs.Words.{Refuses, Grounded, LayerAlike, OthersAlike}
use Rattle.claims.specs.Looks.{Looks}
use Rattle.claims.specs.TraysToRecords.{TraysToRecords}
use Rattle.claims.specs.Batches.{BatchStoring, BatchRepairs}
use Rattle.claims.specs.Boundary.{Handed, Handed256}

-- DEMAND 1. "Whatever layout, list, image or buffer arrives, every call ends with an answer": the checker proves it of each function, and no public call has a
-- `requires`. "The grounds of refusal are those numbered in document 01, each given exactly when it is the first that applies; a refusal returns its number and
-- changes no byte of any buffer it was lent": a call's grounds, in their order, are one definition, ..Refusal, which the call answers; every other number is
-- then zero, every part empty and every buffer as it was. (h is the host rack, i the helper, x the tray fed.)
pub record Demand1 {A : Type 0} (f : Field A) (ed : Edition) (l : Layout) : Type 0 where
  pub measure : (admissible f.order l ≡ true → measure_numbers (measured f.order l) ≡ record { refusal = 0; layers = layers l; checks = checks l; traffic = traffic l })
      × (¬ (admissible f.order l ≡ true) → measure_numbers (measured f.order l) ≡ record { refusal = 1; layers = 0; checks = 0; traffic = 0 })
  pub test : (c : List ℕ) (r : Tested) → TestAnswer f l c r → ((test_numbers r).refusal ≡ test_refusal f l c)
      × (Refuses (test_refusal f l c) → test_numbers r ≡ record { refusal = test_refusal f l c; verdict = 0; layer = 0; check = 0 })
  pub store : (given c d : List ℕ) (n : ℕ) → StoreAnswer f l given c d n → Grounded (store_refusal f l given (length c)) n c d
  pub recover : (es c d : List ℕ) (n : ℕ) → RecoverAnswer f l es c d n → (Refuses (recover_refusal f l es c) → n ≡ recover_refusal f l es c) × (Refuses n → d ≡ c)
  pub share : (h i : ℕ) (rack out : List ℕ) → Refuses (shares_refusal f l 1 h i rack (length out)) → shares_buffer f l 1 h i rack out ≡ out
  pub share_add : (h x : ℕ) (tray held : List ℕ) → Refuses (fed_refusal f l 1 h x tray held) → fed_buffer f l 1 h x tray held ≡ held
  pub share_many : (e h i : ℕ) (rack out : List ℕ) → Refuses (many_refusal f l e h i rack (length out)) → many_buffer f l e h i rack out ≡ out
  pub share_add_many : (e h x : ℕ) (tray held : List ℕ) → Refuses (add_many_refusal f l e h x tray held) → add_many_buffer f l e h x tray held ≡ held
  pub repair : (lost helpers shares host : List ℕ) (first budget : ℕ) (old new : List ℕ) (r : Repaired) →
      RepairAnswer f l lost helpers shares host first budget old new r →
      let reason = repair_refusal f l lost helpers shares host (length old) first budget in
      Grounded reason (report r).refusal old new × (Refuses reason → report r ≡ record { refusal = reason; groups = 0; crossed = 0; remaining = 0 })
  pub write : (tray state volume : ℕ) (symbols image : List ℕ) → Refuses (write_refusal ed l tray state volume symbols (length image)) →
      write_buffer ed l tray state volume symbols image ≡ image
  -- what was refused is an empty part in edition 1, and in edition 2 the lent places as they were
  pub read : (volume places : ℕ) (refused image : List ℕ) → Refuses (read_refusal ed l volume places image) →
      (read_tray ed l volume places image ≡ 0) × (read_symbols ed l volume places refused image ≡ refused)
  pub margin : (states : List ℕ) → let reason = margin_refusal f.order l states in
      (Refuses reason → margin_numbers (margin_answer f.order l states) ≡ record { refusal = reason; margin = pos 0 })
      × (reason ≡ 0 → margin_numbers (margin_answer f.order l states) ≡ record { refusal = 0; margin = margin_of l states })
  pub reset : (w : Walk) → (¬ (admissible f.order l ≡ true) → scrub_numbers (begun f.order l w) ≡ record { refusal = 1; report = 0; walk = w })
      × (admissible f.order l ≡ true → scrub_numbers (begun f.order l w) ≡ record { refusal = 0; report = 0; walk = record { next = 0; bad = 0; first = layers l } })
  pub scrub : (c : List ℕ) (w : Walk) (budget : ℕ) → Refuses (scrub_refusal f l c w budget) →
      scrub_numbers (scrubbed f l c w budget) ≡ record { refusal = scrub_refusal f l c w budget; report = 0; walk = w }
  pub read_part : (codeword spare : List ℕ) (lost done tray first end : ℕ) →
      Refuses (part_refusal f.order l (length codeword) (length spare) lost done tray first end) → part_given f.order l codeword spare lost done tray first end ≡ []
  -- a contract that is no equation decides the answer and every symbol all the same
  pub test_one : (c : List ℕ) (r r' : Tested) → TestAnswer f l c r → TestAnswer f l c r' → r ≡ r'
  pub store_one : (given c d d' : List ℕ) (n n' : ℕ) → StoreAnswer f l given c d n → StoreAnswer f l given c d' n' → (n ≡ n') × (d ≡ d')
  pub recover_one : (es c d : List ℕ) (n : ℕ) → RecoverAnswer f l es c d n → (d' : List ℕ) (n' : ℕ) → RecoverAnswer f l es c d' n' → (n ≡ n') × (d ≡ d')
  pub repair_one : (lost helpers shares host : List ℕ) (first budget : ℕ) (old new new' : List ℕ) (r r' : Repaired) →
      RepairAnswer f l lost helpers shares host first budget old new r → RepairAnswer f l lost helpers shares host first budget old new' r' →
      (r ≡ r') × (new ≡ new')
  -- "A tray marked as demonstration is never handed out as live": nor is any whose state is not live; a well-formed one is named, before 11 (slip 6), and what was
  -- written as one is
  pub live_only : LiveOnly ed
  pub named : (volume : ℕ) (image : List ℕ) → admissible ed.order l ≡ true → well_formed ed image ≡ true → own_state image ≡ demonstration →
      read_refusal ed l volume (layers l) image ≡ 10
  pub demonstration_refused : DemonstrationRefused ed

-- DEMAND 2
pub record Demand2 {A : Type 0} (f : Field A) (l : Layout) : Type 0 where
  -- "Storing turns the data into the one codeword that the parity checks of document 01 allow", whatever its buffer held; and for all data there is one
  pub stored : (given c d : List ℕ) (n : ℕ) → StoreAnswer f l given c d n → n ≡ 0 →
      Codeword f l d × Begins given d × ((e : List ℕ) → Codeword f l e → Begins given e → e ≡ d)
  pub stored_anew : (given c c' d d' : List ℕ) (n n' : ℕ) → StoreAnswer f l given c d n → StoreAnswer f l given c' d' n' → length c ≡ length c' →
      (n ≡ n') × (n ≡ 0 → d ≡ d')
  pub storable : admissible f.order l ≡ true → (given : List ℕ) → length given ≡ l.dimension * layers l → InRange f.coding given → (d : List ℕ) × Stores f l given d
  -- "Recovering, from any k or more trays, gives back that codeword": w, of which the buffer has all trays but those listed, r or fewer
  pub recovered : (es c d : List ℕ) (n : ℕ) → RecoverAnswer f l es c d n → recover_refusal f l es c ≡ 0 →
      (w : List ℕ) → Codeword f l w → Survivors l es c w → (n ≡ 0) × (d ≡ w)
  -- "and refuses surviving trays exactly when no codeword contains them"
  pub refused_exactly : (es c d : List ℕ) (n : ℕ) → RecoverAnswer f l es c d n → recover_refusal f l es c ≡ 0 →
      (n ≡ 8) ↔ ((e : List ℕ) → Codeword f l e → Survivors l es c e → ⊥)
  -- 01: "Recovery writes erased trays only and never looks at their old bytes."
  pub erased_only : (es c d : List ℕ) (n : ℕ) → RecoverAnswer f l es c d n → Survivors l es c d
  pub old_unread : (es c c' d d' : List ℕ) (n n' : ℕ) → RecoverAnswer f l es c d n → RecoverAnswer f l es c' d' n' → Survivors l es c c' →
      (n ≡ n') × (n ≡ 0 → d ≡ d')
  -- 01: "With none erased it writes nothing and, past grounds 1 to 3, answers 0 or 8": 0 exactly for a codeword
  pub none_erased : (c d : List ℕ) (n : ℕ) → RecoverAnswer f l [] c d n → (d ≡ c) × (recover_refusal f l [] c ≡ test_refusal f l c)
      × (test_refusal f l c ≡ 0 → (n ≡ 0) ⊎ (n ≡ 8)) × (test_refusal f l c ≡ 0 → (n ≡ 0) ↔ Codeword f l c)
  -- 01: "Testing a codeword answers sound, or the first bad layer and the least t broken there, and stops at it": past the grounds, which look at every symbol
  -- (W10), the layers after it do not matter
  pub sound_exactly : (c : List ℕ) (r : Tested) → TestAnswer f l c r → test_refusal f l c ≡ 0 → ((test_numbers r).verdict ≡ 1) ↔ Codeword f l c
  pub first_bad : (c : List ℕ) (r : Tested) → TestAnswer f l c r → test_refusal f l c ≡ 0 → ((test_numbers r).verdict ≡ 2) ↔ FirstBad f l c (test_numbers r).layer (test_numbers r).check
  pub stops : (c c' : List ℕ) (r r' : Tested) → TestAnswer f l c r → (test_numbers r).verdict ≡ 2 → test_refusal f l c' ≡ 0 →
      ((i : ℕ) → i ≤ (test_numbers r).layer → LayerAlike l c c' i) → TestAnswer f l c' r' → test_numbers r' ≡ test_numbers r

-- what each call of the repair promises, whatever it is given
pub record EachRepair {A : Type 0} (f : Field A) (l : Layout) (lost helpers shares host : List ℕ) (first budget : ℕ) (old new : List ℕ) (r : Repaired) : Type 0 where
  -- 01: "It does the smaller of the budget and the groups left .. and reports groups done, symbols crossed .. and symbols still to come"
  pub reports : (report r).refusal ≡ 0 →
      ((report r).groups ≡ min budget (groups l - first)) × ((report r).crossed ≡ length lost * (l.helpers * (report r).groups))
      × ((report r).remaining ≡ length lost * (l.helpers * (groups l - (first + (report r).groups))))
  -- "A piece writes its own groups' layers only", in the L symbols of each lost tray
  pub own_groups : (length new ≡ length old)
      × ((n : ℕ) → n < length old → Outside l (first_lost l lost) first (report r).groups (n % layers l) → get_or new n 0 ≡ get_or old n 0)
  -- 01: "A budget of 0, or a first group of L/s, does nothing and is no refusal": it is refused only as one of 0 from group 0 on would be, which looks at nothing
  pub nothing : (budget ≡ 0) ⊎ (first ≡ groups l) → (new ≡ old) × ((report r).groups ≡ 0)
  pub no_ground : (budget ≡ 0) ⊎ (first ≡ groups l) → first ≤ groups l →
      repair_refusal f l lost helpers shares host (length old) first budget ≡ repair_refusal f l lost helpers shares host (length old) 0 0
  -- 01: "those of the lost tray are not looked at": a call alike but for the lost trays' symbols in the host rack answers alike and leaves the same spare
  pub lost_unread : (host' new' : List ℕ) → length host ≡ length host' → OthersAlike l lost host host' →
      (r' : Repaired) → RepairAnswer f l lost helpers shares host' first budget old new' r' → (r ≡ r') × (new ≡ new')

-- DEMAND 3, as W1 reads it: "e lost trays of one rack"; for e = 1 it is document 01's (`OneTray`)
pub record Demand3 {A : Type 0} (f : Field A) (l : Layout) : Type 0 where
  pub each : (lost helpers shares host : List ℕ) (first budget : ℕ) (old new : List ℕ) (r : Repaired) →
      RepairAnswer f l lost helpers shares host first budget old new r → EachRepair f l lost helpers shares host first budget old new r
  -- "For each admissible layout, codeword, single lost tray and choice of d helper racks out of the others, a helper works out its share of L/s symbols
  -- from its own trays. The lost tray comes back exactly from these shares and the sound trays of its own rack", d times L/s crossing: the shares are
  -- what the share calls left
  pub exact : (lost helpers shares host c : List ℕ) → Called f l lost helpers shares host c → (budget : ℕ) → groups l ≤ budget →
      (spare new : List ℕ) → length spare ≡ length lost * layers l → (r : Repaired) → RepairAnswer f l lost helpers shares host 0 budget spare new r →
      ((report r).refusal ≡ 0) × ((report r).crossed ≡ length lost * traffic l) × (new ≡ lost_part l lost c)
  -- "A repair may be cut. Take any list of its pieces over one spare, refused ones included" (`Calls`) ..: THE CUTTING CLAIM (`Cut`)
  pub cutting : (lost helpers : List ℕ) → Losses l lost helpers → (shares host start : List ℕ) (G crossed to_come : ℕ) (spare : List ℕ) →
      Calls f l lost helpers shares host start G crossed to_come spare → Cut f l lost helpers shares host start G crossed to_come spare
  -- so a repair in pieces too gives back the lost trays from what the share calls left
  pub exact_cut : (lost helpers shares host c : List ℕ) → Called f l lost helpers shares host c → (start : List ℕ) (G crossed to_come : ℕ) (spare : List ℕ) →
      Calls f l lost helpers shares host start G crossed to_come spare → G ≡ groups l → (spare ≡ lost_part l lost c) × (crossed ≡ length lost * traffic l)
  -- "Two pieces over the same layout, lost tray and helpers that both do a group, alike in its d share symbols and sound host symbols, write the same there."
  pub same_group : (lost helpers shares host shares' host' : List ℕ) (first budget first' budget' : ℕ) (old new old' new' : List ℕ) (r r' : Repaired) →
      RepairAnswer f l lost helpers shares host first budget old new r → RepairAnswer f l lost helpers shares' host' first' budget' old' new' r' →
      (p : ℕ) → (first ≤ p) × (p < first + (report r).groups) → (first' ≤ p) × (p < first' + (report r').groups) →
      ((m k : ℕ) → m < length lost → k < l.helpers → sent_symbol f l (length lost) shares m p k ≡ sent_symbol f l (length lost) shares' m p k) →
      ((j : ℕ) → j < layers l → group_at l (first_lost l lost) j ≡ p → SoundAlike f l lost j host host') →
      (i : ℕ) → i < length lost → (j : ℕ) → j < layers l → group_at l (first_lost l lost) j ≡ p → get_or new (i * layers l + j) 0 ≡ get_or new' (i * layers l + j) 0
  -- 01: "What it writes is fixed for any shares: .. the one solution of the R checks" (`Ruled`): in each group there is one outcome and only one
  pub fixed : (lost helpers : List ℕ) → Losses l lost helpers → (shares host : List ℕ) → One f l lost helpers shares host
  -- the one solution itself, of the checks t = u·w + m summed over the group, whatever was sent: its host rack sums and the other racks' group sums
  pub one_solution : (x : ℕ) (helpers : List ℕ) → Helpers l x helpers → (p : ℕ) → p < groups l → (m : ℕ) (sent : ℕ → A) (one two : ℕ → ℕ → A) →
      Solution (shape_of f l) m (x / l.size) p (λ k. get_or helpers k 0) l.helpers (parity_racks l) sent one →
      Solution (shape_of f l) m (x / l.size) p (λ k. get_or helpers k 0) l.helpers (parity_racks l) sent two →
      ((j : ℕ) → group_at l x j ≡ p → one (x / l.size) j ≡ two (x / l.size) j)
      × ((i : ℕ) → i < l.racks → ¬ (i ≡ x / l.size) → group_sum (shape_of f l) (x / l.size) p (one i) ≡ group_sum (shape_of f l) (x / l.size) p (two i))

-- DOCUMENT 01's own claims
pub record Document01 {A : Type 0} (f : Field A) (ed : Edition) (l : Layout) : Type 0 where
  -- "The root z is 2; its 255 powers run through every nonzero symbol"; the symbols are a field, and these powers differ
  pub field : FieldLaws f
  pub every_symbol : (x : A) → ¬ (x ≡ f.ops.zero) → (i : ℕ) × (i < f.order) × (pow f.ops f.root i ≡ x)
  -- "It then follows that n·s ≤ 255"; K ≥ 1, R ≥ 1 and s ≤ 4, and the last check t = u·(R − 1) that speaks of rack sums is one of the r checks
  pub room : admissible f.order l ≡ true → (trays l * digits l ≤ f.order) × (1 ≤ whole_racks l) × (1 ≤ parity_racks l) × (digits l ≤ 4)
      × (l.size * (parity_racks l - 1) < checks l)
  -- "Within a layer all points differ. The u-th powers of the points of two different pairs (i, a) differ too, and repair needs this." (slip 1)
  pub points_differ : admissible f.order l ≡ true → (j : ℕ) → Distinct (point_at f l j) (trays l)
  pub powers_differ : admissible f.order l ≡ true → (i a g i' a' g' : ℕ) → i < l.racks → a < digits l → i' < l.racks → a' < digits l →
      pow f.ops (point (shape_of f l) i a g) l.size ≡ pow f.ops (point (shape_of f l) i' a' g') l.size → (i ≡ i') × (a ≡ a')
  -- "For t = u·w, w from 0 to R − 1, the checks speak only of rack sums (the exclusive or of the u trays)."
  pub rack_sums : admissible f.order l ≡ true → (c : List ℕ) (j w : ℕ) → check_at f l c j (l.size * w) ≡
      check f.ops (λ i. pow f.ops (point (shape_of f l) i (digit (digits l) j i) 0) l.size) l.racks
      (λ i. sum f.ops l.size (λ g. symbol_at f l c (i * l.size + g) j)) w
  -- "For a host rack h, the layers fall into L/s groups: those that agree in all digits but digit h."
  pub groups_agree : admissible f.order l ≡ true → (h j k : ℕ) → h < l.racks → j < layers l → k < layers l → (group_of (digits l) h j < groups l)
      × ((group_of (digits l) h j ≡ group_of (digits l) h k) ↔ ((i : ℕ) → i < l.racks → ¬ (i ≡ h) → digit (digits l) j i ≡ digit (digits l) k i))
  -- Tray image: what a read accepts is exactly what a write of a live tray makes; ground 9 is the header's table, rule by rule (`Rules`)
  pub accepted_exactly : AcceptedExactly ed
  pub formed_exactly : FormedExactly ed
  -- The loss margin: "It runs from −k to n − k", and W2: "the margin is the number of live trays less k"
  pub margin_range : (states : List ℕ) → margin_refusal f.order l states ≡ 0 →
      (neg_ℤ (pos l.dimension) ≤ℤ margin_of l states) × (margin_of l states ≤ℤ (pos (trays l) -ℤ pos l.dimension))
  pub margin_ends : admissible f.order l ≡ true →
      ((margin_refusal f.order l (replicate (trays l) 0) ≡ 0) × (margin_of l (replicate (trays l) 0) ≡ neg_ℤ (pos l.dimension)))
      × ((margin_refusal f.order l (replicate (trays l) 1) ≡ 0) × (margin_of l (replicate (trays l) 1) ≡ pos (trays l) -ℤ pos l.dimension))
  pub margin_live : (states : List ℕ) → margin_of l states ≡ pos (count 1 states) -ℤ pos l.dimension

-- DOCUMENT 02: W1, W5, W6, W7 and W8, as far as the above does not say it
pub record Requests {A : Type 0} (f : Field A) (ed : Edition) (l : Layout) : Type 0 where
  -- W1: "the tray at place g is multiplied by z to the power g·m·(255/u)"; "With e = 1 the bytes are those of today": the call for e shares is with E = 0 the one for either E,
  -- which with e = 1 is document 01's (`OneTray`)
  pub weights : (g m : ℕ) → pow f.ops (place (shape_of f l) g) m ≡ pow f.ops f.root (g * m * (f.order / l.size))
  pub shares_are : l.errors ≡ 0 → (e h i : ℕ) (rack out : List ℕ) → (many_buffer f l e h i rack out ≡ shares_buffer f l e h i rack out)
      × (many_refusal f l e h i rack (length out) ≡ shares_refusal f l e h i rack (length out))
  -- W5: "Writing such an image is refused with 3, and reading one with 9, also when 0 is the volume expected. A demonstration image of volume 0 gets 9 too"
  pub nought_written : admissible ed.order l ≡ true → (tray state : ℕ) (symbols : List ℕ) → length symbols ≡ layers l →
      write_refusal ed l tray state 0 symbols (image_length ed l) ≡ 3
  pub nought_read : admissible ed.order l ≡ true → (volume : ℕ) (image : List ℕ) → own_volume image ≡ 0 → read_refusal ed l volume (layers l) image ≡ 9
  -- W6: "One call looks at the smaller of its budget and the layers left and raises the next layer by as many. After each call of a walk begun from a
  -- reset record, the record holds exactly how many layers below the next are bad (some check broken) and the least of them" .. (`Walked`, over every list of calls)
  pub looks : (c : List ℕ) (w : Walk) (budget : ℕ) → scrub_refusal f l c w budget ≡ 0 →
      (scrubbed f l c w budget).walk.next ≡ w.next + min budget (layers l - w.next)
  pub walked : (c : List ℕ) (w : Walk) (r : Report) → Walks f l c w r → Walked f l c w r
  -- "While the next layer is below L, the report says "unfinished" (1); at L it says "sound" (2) exactly when the count is 0, else "bad" (3)."
  pub reports : (c : List ℕ) (w : Walk) (budget : ℕ) → scrub_refusal f l c w budget ≡ 0 → let n = scrub_numbers (scrubbed f l c w budget) in
      (n.refusal ≡ 0) × (n.report ≡ cond (ltb n.walk.next (layers l)) 1 (cond (eqb n.walk.bad 0) 2 3))
  pub bad_layer_lem : (c : List ℕ) (j : ℕ) → (bad_layer f l c j ≡ true) ↔ ((t : ℕ) × (t < checks l) × (¬ (check_at f l c j t ≡ f.ops.zero)))
  -- W7: "the store for a tray that isn't lost, the spare for the lost one where every layer asked for is in a done group." "An empty run is an empty part."
  pub part_of : (codeword spare : List ℕ) (lost done tray first end : ℕ) → part_refusal f.order l (length codeword) (length spare) lost done tray first end ≡ 0 →
      (¬ (tray ≡ lost) → part_given f.order l codeword spare lost done tray first end ≡ take (end - first) (drop (tray * layers l + first) codeword))
      × (tray ≡ lost → (part_given f.order l codeword spare lost done tray first end ≡ take (end - first) (drop first spare))
      × ((j : ℕ) → first ≤ j → j < end → group_at l lost j < done))
  pub empty_run : (codeword spare : List ℕ) (lost done tray first : ℕ) → part_given f.order l codeword spare lost done tray first first ≡ []
  -- "If the spare was written by pieces as the third demand says .., the part must equal that codeword's": by calls as of the cutting claim, from the shares and
  -- sound trays of the codeword c, at least as far as the groups given as done, where the store's other trays are those of c
  pub part_right : (lost : ℕ) (helpers shares host start : List ℕ) (G crossed to_come : ℕ) (c codeword spare : List ℕ) (done : ℕ) → Helpers l lost helpers →
      Of f l (lost ∷ []) helpers shares host c → Calls f l (lost ∷ []) helpers shares host start G crossed to_come spare → done ≤ G →
      ((y : ℕ) → y < trays l → ¬ (y ≡ lost) → tray_part l codeword y ≡ tray_part l c y) →
      (tray first end : ℕ) → part_refusal f.order l (length codeword) (length spare) lost done tray first end ≡ 0 →
      part_given f.order l codeword spare lost done tray first end ≡ take (end - first) (drop first (tray_part l c tray))
  -- W8: "the buffer holds what it held, plus this tray's part": a step of `Feeds` is what the call for one share leaves, and with E = 0 the call for e
  pub feeds_are : l.errors ≡ 0 → (e h x : ℕ) (tray held : List ℕ) → fed_buffer f l e h x tray held ≡ add_many_buffer f l e h x tray held
  -- "Whoever calls it clears first and feeds all u trays. In any order of trays, each fed once, the share is that of document 01, or W1's where e is given."
  pub fed_once : (h i : ℕ) (rack out : List ℕ) → shares_refusal f l 1 h i rack (length out) ≡ 0 → (places held : List ℕ) →
      Feeds f l 1 h i rack (cleared f l 1) places held → ((g : ℕ) → g < l.size → count g places ≡ 1) → held ≡ shares_buffer f l 1 h i rack out
  pub fed_once_many : (e h i : ℕ) (rack out : List ℕ) → many_refusal f l e h i rack (length out) ≡ 0 → (places held : List ℕ) →
      Feeds f l e h i rack (cleared f l e) places held → ((g : ℕ) → g < l.size → count g places ≡ 1) → held ≡ many_buffer f l e h i rack out
  -- W10: "a tray fed twice (W8) counts twice", and fed n times n times, with either E; among bytes it cancels (`Claims256`)
  pub fed_often : (e h i : ℕ) (rack start : List ℕ) → shares_refusal f l e h i rack (length start) ≡ 0 → InRange f.coding start → (places held : List ℕ) →
      Feeds f l e h i rack start places held → held ≡ table (λ n. f.coding.val (f.ops.add (f.coding.elem (get_or start n 0)) (sum f.ops l.size
      (λ g. sum f.ops (count g places) (λ k. part_at f l h (i * l.size + g) (tray_part l rack g) n))))) (e * groups l)

-- ONE LOST TRAY, in document 01's own words: this follows from the claims for e trays and e shares above and need not be read
pub record OneTray {A : Type 0} (f : Field A) (l : Layout) : Type 0 where
  pub exact : admissible_with f.order 0 l ≡ true → (x : ℕ) (helpers shares host c : List ℕ) → CalledOne f l x helpers shares host c → (budget : ℕ) → groups l ≤ budget →
      (spare new : List ℕ) → length spare ≡ layers l → (r : Repaired) → RepairAnswer f l (x ∷ []) helpers shares host 0 budget spare new r →
      ((report r).refusal ≡ 0) × ((report r).crossed ≡ traffic l) × (new ≡ tray_part l c x)
  pub cutting : admissible_with f.order 0 l ≡ true → (x : ℕ) (helpers : List ℕ) → Helpers l x helpers → (shares host start : List ℕ) (G crossed to_come : ℕ) (spare : List ℕ) →
      Calls f l (x ∷ []) helpers shares host start G crossed to_come spare → CutOne f l x helpers shares host start G crossed to_come spare
  pub rule : admissible f.order l ≡ true → (x : ℕ) (helpers shares host : List ℕ) (p : ℕ) (spare : List ℕ) →
      Ruled f l (x ∷ []) helpers shares host p spare ↔ RuledOne f l x helpers shares host p spare
  pub share : (h i : ℕ) (rack out : List ℕ) → (shares_refusal f l 1 h i rack (length out) ≡ share_refusal f l h i rack (length out))
      × (shares_buffer f l 1 h i rack out ≡ share_buffer f l h i rack out)
  pub share_add : (h x : ℕ) (tray held : List ℕ) → (fed_refusal f l 1 h x tray held ≡ add_refusal f l h x tray held)
      × (fed_buffer f l 1 h x tray held ≡ add_buffer f l h x tray held)

-- W12, A RACK THAT ANSWERS WRONGLY: the repair of one lost tray with E = 1
pub record Correcting {A : Type 0} (f : Field A) (l : Layout) : Type 0 where
  -- a refusal gives its number, every other number zero, and changes no symbol; the contract decides the answer and the whole spare, with two wrong shares too
  pub grounds : (x : ℕ) (helpers shares host old new : List ℕ) (r : Corrected) → CorrectingAnswer f l x helpers shares host old new r →
      let reason = correcting_refusal f l x helpers shares host (length old) in
      (Refuses reason → corrected r ≡ record { refusal = reason; rack = 0; crossed = 0 }) × (Refuses (corrected r).refusal → new ≡ old)
  pub one : (x : ℕ) (helpers shares host old new new' : List ℕ) (r r' : Corrected) →
      CorrectingAnswer f l x helpers shares host old new r → CorrectingAnswer f l x helpers shares host old new' r' → (r ≡ r') × (new ≡ new')
  -- "if at most one helper's share is wrong, in any of its symbols, each still one of the field, the tray is exact, and a rack is named exactly when its share
  -- differs anywhere, else B" (`Names`): all shares but the k-th are what the share calls left
  pub exact : admissible_with f.order 1 l ≡ true → (x : ℕ) (helpers shares host c : List ℕ) (k : ℕ) → CalledWrong f l x helpers shares host c k →
      (old new : List ℕ) → length old ≡ layers l → (r : Corrected) → CorrectingAnswer f l x helpers shares host old new r →
      ((corrected r).refusal ≡ 0) × ((corrected r).crossed ≡ traffic l)
      × Names f l x helpers shares (λ p i. share_symbol f l 0 (x / l.size) (rack_part l c (get_or helpers i 0)) p) (corrected r).rack × (new ≡ tray_part l c x)
  -- "Refusal 14, tried last, exactly when the checks neither hold nor can be made to hold by changing one share."
  pub fourteen_exactly : (x : ℕ) (helpers shares host old new : List ℕ) (r : Corrected) → CorrectingAnswer f l x helpers shares host old new r →
      correcting_refusal f l x helpers shares host (length old) ≡ 0 → ((corrected r).refusal ≡ 14) ↔ NoneHold f l x helpers shares
  -- "for E = 1 the repair in pieces, W1, W8 with e, W7 and W13 answer 1, and the new repair answers 1 for E = 0"
  pub pieces_other : ¬ (l.errors ≡ 0) →
      ((lost helpers shares host : List ℕ) (room first budget : ℕ) → repair_refusal f l lost helpers shares host room first budget ≡ 1)
      × ((e h i : ℕ) (rack : List ℕ) (room : ℕ) → many_refusal f l e h i rack room ≡ 1)
      × ((e h x : ℕ) (tray held : List ℕ) → add_many_refusal f l e h x tray held ≡ 1)
      × ((codeword spare lost done tray first end : ℕ) → part_refusal f.order l codeword spare lost done tray first end ≡ 1)
  pub cards_other : ¬ (l.errors ≡ 0) → (x : ℕ) (helpers : List ℕ) (group : ℕ) →
      ((room : ℕ) → print_ground f l x helpers group room ≡ 1) × ((card : List ℕ) → test_ground f l x helpers group card ≡ 1)
      × ((card shares host : List ℕ) (room : ℕ) → repair_ground f l x helpers group card shares host room ≡ 1)
  pub whole_other : ¬ (l.errors ≡ 1) → (x : ℕ) (helpers shares host : List ℕ) (room : ℕ) → correcting_refusal f l x helpers shares host room ≡ 1

-- W13, REPAIR CARDS: for a lost tray x, its helpers and a group
pub record Cards {A : Type 0} (f : Field A) (l : Layout) (x : ℕ) (helpers : List ℕ) (group : ℕ) : Type 0 where
  -- exactly one card is right, the one printed; another ground changes no symbol
  pub one_card : admissible_with f.order 0 l ≡ true → Helpers l x helpers → group < groups l → OneCard f l x helpers group
  pub printed : (old new : List ℕ) (e : ℕ) → PrintAnswer f l x helpers group old new e →
      Grounded (print_ground f l x helpers group (length old)) e old new × (e ≡ 0 → Right f l x helpers group new)
  pub print_one : (old new new' : List ℕ) (e e' : ℕ) → PrintAnswer f l x helpers group old new e → PrintAnswer f l x helpers group old new' e' → (e ≡ e') × (new ≡ new')
  -- "Accept a card exactly when its multipliers give the host rack sums of every codeword of the layout (`Right`), and refuse with 15, tried last, otherwise."
  pub accepted_exactly : (card : List ℕ) (e : ℕ) → CardTest f l x helpers card group e → (Refuses (test_ground f l x helpers group card) → e ≡ test_ground f l x helpers group card)
      × (test_ground f l x helpers group card ≡ 0 → ((e ≡ 0) ↔ Right f l x helpers group card) × ((e ≡ 15) ↔ (¬ (Right f l x helpers group card))))
  -- "it tests the card too": a repair by card is refused likewise, and changes no symbol then
  pub repair_exactly : (card shares host old new : List ℕ) (r : Repaired) → CardAnswer f l x helpers card shares host group old new r →
      let reason = repair_ground f l x helpers group card shares host (length old) in
      (Refuses reason → report r ≡ record { refusal = reason; groups = 0; crossed = 0; remaining = 0 }) × (Refuses (report r).refusal → new ≡ old)
      × (reason ≡ 0 → (((report r).refusal ≡ 0) ↔ Right f l x helpers group card) × (((report r).refusal ≡ 15) ↔ (¬ (Right f l x helpers group card))))
  pub repair_one : (card shares host old new new' : List ℕ) (r r' : Repaired) →
      CardAnswer f l x helpers card shares host group old new r → CardAnswer f l x helpers card shares host group old new' r' → (r ≡ r') × (new ≡ new')
  -- "A repair by card .. writes that group only and reports as that piece. A repair by an accepted card, whoever made it, equals the repair of document 01 on true
  -- shares of any codeword": on any shares, and with those of a codeword w the group's layers are those of w's lost tray
  pub as_the_repair : (card shares host old new : List ℕ) (r : Repaired) → CardAnswer f l x helpers card shares host group old new r → (report r).refusal ≡ 0 →
      RepairAnswer f l (x ∷ []) helpers shares host group 1 old new r
      × ((new' : List ℕ) (r' : Repaired) → RepairAnswer f l (x ∷ []) helpers shares host group 1 old new' r' → (r ≡ r') × (new ≡ new'))
      × ((w : List ℕ) → Of f l (x ∷ []) helpers shares host w → (j : ℕ) → j < layers l → group_at l x j ≡ group → get_or new j 0 ≡ get_or (tray_part l w x) j 0)
  -- so the cutting claim holds of every list of pieces and repairs by card
  pub cutting : admissible_with f.order 0 l ≡ true → Helpers l x helpers → (shares host start : List ℕ) (G crossed to_come : ℕ) (spare : List ℕ) →
      CardCalls f l x helpers shares host start G crossed to_come spare → Cut f l (x ∷ []) helpers shares host start G crossed to_come spare

-- W14, IS IT TRULY THE LEAST? For E = 0, a lost tray x and d helpers
pub record Least {A : Type 0} (f : Field A) (l : Layout) (x : ℕ) (helpers : List ℕ) : Type 0 where
  -- "If some s of the helpers send fewer than L symbols together, then there are two codewords alike in every message and in the host rack's other trays, but
  -- different in the lost tray. From this, no method that always restores the tray has less than d·L/s in all."
  pub truly_least : TrulyLeast f l x helpers
  -- its way of d·L/s symbols is the share call's
  pub messages_are : (c : List ℕ) (k : ℕ) → message f l helpers (sharing f l x) c k ≡ share_of f l 0 (x / l.size) (rack_part l c (get_or helpers k 0))

-- all of it, over either field; demand 3 and its rule are for the admissible layouts with E = 0, since every other is refused with 1
pub record Claims {A : Type 0} (f : Field A) (ed : Edition) (l : Layout) : Type 0 where
  -- the images are of this field's symbols and layouts
  pub images : (ed.order ≡ f.order) × (ed.size ≡ f.coding.size)
  pub first : Demand1 f ed l
  pub second : Demand2 f l
  pub third : admissible_with f.order 0 l ≡ true → Demand3 f l
  pub own : Document01 f ed l
  pub requests : Requests f ed l
  pub one_tray : OneTray f l
  pub wrong_share : Correcting f l
  pub cards : (x : ℕ) (helpers : List ℕ) (group : ℕ) → Cards f l x helpers group
  pub least : admissible_with f.order 0 l ≡ true → (x : ℕ) (helpers : List ℕ) → Helpers l x helpers → Least f l x helpers
  pub looks : Looks f l
  pub handed : Handed f l
  pub trays_to_records : TraysToRecords f ed l
  -- many codewords a call
  pub batch_storing : BatchStoring f l
  pub batch_repairs : BatchRepairs f l

-- THE FIELD OF 256
pub record Claims256 (l : Layout) : Type 0 where
  pub claims : Claims gf256 edition1 l
  -- 01: "the field of 256 with polynomial x^8 + x^4 + x^3 + x^2 + 1 (hex 11D) .. Addition is exclusive or. The root z is 2": products go by shift and add with 11D (`◌⊗◌`);
  -- the powers z^0 .. z^7 are the numbers 1 .. 128, and z^8 is z^4 + z^3 + z^2 + 1, hex 1D
  pub adds : (a b : ℕ) → a < 256 → b < 256 → gf256.coding.val (gf256.ops.add (gf256.coding.elem a) (gf256.coding.elem b)) ≡ bit_xor a b
  pub multiplies : (a b : ℕ) → a < 256 → b < 256 → gf256.coding.val (gf256.ops.mul (gf256.coding.elem a) (gf256.coding.elem b)) ≡ a ⊗ b
  pub low_powers : (i : ℕ) → i < 8 → gf256.coding.val (pow gf256.ops gf256.root i) ≡ 2 ^ i
  pub eighth_power : gf256.coding.val (pow gf256.ops gf256.root 8) ≡ 0x1D
  pub root : (gf256.coding.val gf256.root ≡ 2) × (gf256.order ≡ 255) × (gf256.coding.size ≡ 256)
  -- "admissible exactly when all hold": `Cabinet` has the limits of documents 01 and 02; E is 0 or 1; "u is 1, 3, 5, 15 or 17"
  pub admissible_exactly : (admissible 255 l ≡ true) ↔ (Cabinet l × (l.errors ≤ 1) × ((l.size ≡ 1) ⊎ (l.size ≡ 3) ⊎ (l.size ≡ 5) ⊎ (l.size ≡ 15) ⊎ (l.size ≡ 17)))
  -- W8: "A tray fed twice cancels, and the claim says so": of one share with either E (e = 1), and of e shares
  pub fed_twice : (e h x : ℕ) (tray held : List ℕ) → InRange gf256.coding held → fed_buffer gf256 l e h x tray (fed_buffer gf256 l e h x tray held) ≡ held
  pub fed_twice_many : (e h x : ℕ) (tray held : List ℕ) → InRange gf256.coding held →
      add_many_buffer gf256 l e h x tray (add_many_buffer gf256 l e h x tray held) ≡ held
  pub cancels : (e h i : ℕ) (rack start : List ℕ) → shares_refusal gf256 l e h i rack (length start) ≡ 0 → InRange gf256.coding start → (places held : List ℕ) →
      Feeds gf256 l e h i rack start places held → held ≡ table (λ n. gf256.coding.val (gf256.ops.add (gf256.coding.elem (get_or start n 0)) (sum gf256.ops l.size
      (λ g. choose (odd (count g places)) (part_at gf256 l h (i * l.size + g) (tray_part l rack g) n) gf256.ops.zero)))) (e * groups l)
  -- what C is handed of an image
  pub image_handed : Handed256 l
  -- W10: "a reader of edition 1 refuses them with 9"
  pub other_edition : OtherRefused edition1 edition2
  -- 01: "Proved together, as a single table under one claim: the starred ones", with the lines of W2, W4 and W10
  pub bench_book_lem : AllHold bench_book

-- THE WHOLE NUMBERS MODULO 257 (W10)
pub record Claims257 (l : Layout) : Type 0 where
  pub claims : Claims gf257 edition2 l
  -- "whole numbers modulo 257, root 3, of order 256"; "Symbols are 0 .. 256"; "Sums are modulo 257, so signs matter"
  pub adds : (a b : ℕ) → gf257.coding.val (gf257.ops.add (gf257.coding.elem a) (gf257.coding.elem b)) ≡ (a + b) % 257
  pub multiplies : (a b : ℕ) → gf257.coding.val (gf257.ops.mul (gf257.coding.elem a) (gf257.coding.elem b)) ≡ (a * b) % 257
  pub root : (gf257.coding.val gf257.root ≡ 3) × (gf257.order ≡ 256) × (gf257.coding.size ≡ 257)
  -- "with u = 1, 2, 4, 8 or 16, n up to 60, L up to 4,096"
  pub admissible_exactly : (admissible 256 l ≡ true) ↔ (Cabinet l × (l.errors ≤ 1) × ((l.size ≡ 1) ⊎ (l.size ≡ 2) ⊎ (l.size ≡ 4) ⊎ (l.size ≡ 8) ⊎ (l.size ≡ 16)))
  pub other_edition : OtherRefused edition2 edition1
