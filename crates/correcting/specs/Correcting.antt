-- The repair of a lost tray with E = 1 (document 02, W12), over any field: what it answers and what the spare holds afterwards. Of the d shares one may be wrong.
-- Assumes nothing.
use Rattle.std.specs.Prelude.{◌≡◌, Bool, ◌&&◌, List, ℕ, ◌+◌, ◌-◌, ◌*◌, ◌/◌, ◌%◌, ◌<◌, eqb, ltb, length, get_or}
use Rattle.lists.specs.Lists.{unless, all_below, strictly_rising, absent}
use Rattle.algebra.specs.Coding.{InRange}
use Rattle.algebra.specs.Shape.{Field}
use Rattle.algebra.specs.Consistent.{Consistent, Uncorrectable}
use Rattle.layout.specs.declared.Layout.{Layout}
use Rattle.layout.specs.Layout.{trays, layers, groups, traffic, parity_racks, admissible_with}
use Rattle.range.specs.Range.{symbols_from}
use Rattle.codeword.specs.Codeword.{shape_of, Codeword, symbol_at}
use Rattle.rule.specs.Rule.{rack_part, Helpers, group_at, share_symbol, shared_symbol, sound_sum}
use Rattle.correcting.specs.declared.Corrected.{Corrected}
use Rattle.correcting.specs.declared.CorrectedNumbers.{CorrectedNumbers}
use Rattle.correcting.specs.declared.Corrected.TheVariants.{Done, Refused}

-- the numbers that the call looks at are symbols: the shares, and the host rack's trays before and after the lost tray x
unfoldable pub seen_symbols : {A : Type 0} → Field A → Layout → ℕ → List ℕ → List ℕ → Bool
seen_symbols f l x shares host =
    symbols_from f shares 0 (length shares)
    && symbols_from f host 0 (x % l.size * layers l)
    && symbols_from f host ((x % l.size + 1) * layers l) ((l.size - (x % l.size + 1)) * layers l)

-- the refusal before the checks are tried, given the shares, the host rack and the length of the spare; 0 for none
unfoldable pub correcting_refusal : {A : Type 0} → Field A → Layout → ℕ → List ℕ → List ℕ → List ℕ → ℕ → ℕ
correcting_refusal f l x helpers shares host spare =
    unless (admissible_with f.order 1 l) 1
    (unless (eqb (length shares) (traffic l) && eqb (length host) (l.size * layers l) && eqb spare (layers l)) 2
    (unless (ltb x (trays l) && all_below helpers l.racks && seen_symbols f l x shares host) 3
    (unless (strictly_rising helpers) 4
    (unless (eqb (length helpers) l.helpers) 5
    (unless (absent helpers (x / l.size)) 6
    0)))))

-- the documents' numbers for each answer: the refusal (0 for none), the rack named (B for none) and the symbols crossed
abbrev pub report : Corrected → CorrectedNumbers
report (Done rack crossed) = record { refusal = 0; rack = rack; crossed = crossed }
report (Refused e) = record { refusal = e; rack = 0; crossed = 0 }

-- the lost tray is x
module _ {A : Type 0} (f : Field A) (l : Layout) (x : ℕ) (helpers : List ℕ) where
  -- the checks hold for shares: every group has rack sums that meet its R checks and agree with what the helpers sent
  abbrev pub ChecksHold : (ℕ → ℕ → A) → Type 0
  ChecksHold = Consistent (shape_of f l) (x / l.size) (λ k. get_or helpers k 0) l.helpers (parity_racks l) (groups l)

module _ {A : Type 0} (f : Field A) (l : Layout) (x : ℕ) (helpers shares : List ℕ) where
  -- refusal 14: they do not hold for the shares lent, and changing one helper's share cannot make them hold
  abbrev pub NoneHold : Type 0
  NoneHold = Uncorrectable (shape_of f l) (x / l.size) (λ k. get_or helpers k 0) l.helpers (parity_racks l) (groups l) (shared_symbol f l shares)

  -- a symbol of the rack's share that is not the one meant
  pub record Wrong (meant : ℕ → ℕ → A) (rack : ℕ) : Type 0 where
    pub helper : ℕ
    pub group : ℕ
    pub helper_in : helper < l.helpers
    pub group_in : group < groups l
    pub is_rack : get_or helpers helper 0 ≡ rack
    pub differs : ¬ (shared_symbol f l shares group helper ≡ meant group helper)

  -- a rack is named exactly when its share differs anywhere from what is meant, else B: every other helper's share is right, and the share of a rack named is not
  pub record Names (meant : ℕ → ℕ → A) (rack : ℕ) : Type 0 where
    pub right : (k p : ℕ) → k < l.helpers → p < groups l → ¬ (get_or helpers k 0 ≡ rack) → shared_symbol f l shares p k ≡ meant p k
    pub wrong : ¬ (rack ≡ l.racks) → Wrong meant rack

module _ {A : Type 0} (f : Field A) (l : Layout) (x : ℕ) (helpers shares host : List ℕ) where
  open f.ops use {add, neg}

  -- the shares meant are those lent but for the one of the rack named, the checks hold for them, and each symbol of the spare is the host's rack sum less the rack's
  -- other symbols
  pub record Settled (rack : ℕ) (spare : List ℕ) : Type 0 where
    pub meant : ℕ → ℕ → A
    pub named : Names f l x helpers shares meant rack
    pub hold : ChecksHold f l x helpers meant
    pub tray : (j : ℕ) → j < layers l → get_or spare j 0 ≡ f.coding.val (add (hold.sums (group_at l x j) (x / l.size) j) (neg (sound_sum f l x host j)))

  -- a call that is done writes the whole spare
  pub record CorrectingDone (old new : List ℕ) (n : CorrectedNumbers) : Type 0 where
    pub accepted : correcting_refusal f l x helpers shares host (length old) ≡ 0
    pub crossed_is : n.crossed ≡ traffic l
    pub long : length new ≡ length old
    pub settled : Settled n.rack new

  -- a call that is refused: no symbol changed; 14 is tried last
  pub record CorrectingRefused (old new : List ℕ) (n : CorrectedNumbers) : Type 0 where
    pub reason : 0 < n.refusal
    pub refused : ¬ (correcting_refusal f l x helpers shares host (length old) ≡ 0) → n.refusal ≡ correcting_refusal f l x helpers shares host (length old)
    pub last : correcting_refusal f l x helpers shares host (length old) ≡ 0 → (n.refusal ≡ 14) × NoneHold f l x helpers shares
    pub kept : new ≡ old

-- the contract of the call
abbrev pub CorrectingAnswer : {A : Type 0} → Field A → Layout → ℕ → List ℕ → List ℕ → List ℕ → List ℕ → List ℕ → Corrected → Type 0
CorrectingAnswer f l x helpers shares host old new (Done rack crossed) = CorrectingDone f l x helpers shares host old new (report (Done rack crossed))
CorrectingAnswer f l x helpers shares host old new (Refused e) = CorrectingRefused f l x helpers shares host old new (report (Refused e))

-- what the repair of the codeword c's tray x is given: symbols in range, right lengths and a host rack whose other trays are the codeword's
pub record Setting {A : Type 0} (f : Field A) (l : Layout) (x : ℕ) (helpers shares host c : List ℕ) : Type 0 where
  pub codeword : Codeword f l c
  pub help : Helpers l x helpers
  pub shares_long : length shares ≡ traffic l
  pub shares_range : InRange f.coding shares
  pub host_long : length host ≡ l.size * layers l
  pub host_range : (g j : ℕ) → g < l.size → j < layers l → ¬ (g ≡ x % l.size) → get_or host (g * layers l + j) 0 < f.coding.size
  pub sound : (j : ℕ) → j < layers l → (g : ℕ) → g < l.size → ¬ (g ≡ x % l.size) → symbol_at f l host g j ≡ symbol_at f l (rack_part l c (x / l.size)) g j

-- and the helpers' shares, of which the k-th one's may have any symbols
pub record OneWrong {A : Type 0} (f : Field A) (l : Layout) (x : ℕ) (helpers shares host c : List ℕ) (k : ℕ) : Type 0 where
  pub setting : Setting f l x helpers shares host c
  pub helper_in : k < l.helpers
  pub right : (i p : ℕ) → i < l.helpers → p < groups l → ¬ (i ≡ k) → shared_symbol f l shares p i ≡ share_symbol f l 0 (x / l.size) (rack_part l c (get_or helpers i 0)) p
