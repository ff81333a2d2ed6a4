-- What inner functions are told and give. Nothing here has to be believed.
-- Assumes nothing.
use Rattle.std.specs.Prelude.{Bool, not, ◌&&◌, ◌≡◌, List, ℕ, ◌+◌, ◌-◌, ◌*◌, ◌%◌, ◌^◌, ◌≤◌, ◌<◌, eqb, ltb, length, get_or, take, drop}
use Rattle.lists.specs.Lists.{table}
use Rattle.algebra.specs.Sum.{sum}
use Rattle.algebra.specs.Cabinet.{group_sum}
use Rattle.algebra.specs.Coding.{InRange}
use Rattle.algebra.specs.Shape.{Field}
use Rattle.layout.specs.declared.Layout.{Layout}
use Rattle.layout.specs.Layout.{digits, layers, groups, admissible, Cabinet, Admissible}
use Rattle.codeword.specs.Codeword.{shape_of}
use Rattle.share.specs.Many.{many_grounds, part_at}

-- the grounds of all calls: e shares are asked for, so many trays of rack `helper` are lent, and what is looked at are symbols or not
unfoldable pub grounds : ℕ → Layout → ℕ → ℕ → ℕ → ℕ → ℕ → ℕ → Bool → ℕ
grounds N l e lent host helper given room symbols =
    many_grounds (admissible N l) l e (eqb given (lent * layers l) && eqb room (e * groups l)) (ltb host l.racks && ltb helper l.racks) symbols (not (eqb host helper))

-- the numbers of a layout
pub record CountsOf (l : Layout) (s total many : ℕ) : Type 0 where
  pub digits_are : s ≡ digits l
  pub layers_are : total ≡ layers l
  pub groups_are : many ≡ groups l

-- the runs of a layout for host h
pub record RunsOf (l : Layout) (h s run count far : ℕ) : Type 0 where
  pub digits_are : s ≡ digits l
  pub run_is : run ≡ digits l ^ h
  pub count_is : count ≡ digits l ^ (l.racks - 1 - h)
  pub layers_are : far ≡ layers l

-- what `add_weighted` is told
pub record Weighing (l : Layout) (e : ℕ) (sums shares : List ℕ) : Type 0 where
  pub adm : Cabinet l
  pub long : groups l ≤ length sums
  pub room : length shares ≡ e * groups l
  pub some : 0 < e
  pub few : e ≤ l.size

-- the symbols of the tray at a place
unfoldable pub cut : Layout → List ℕ → ℕ → List ℕ
cut l symbols at = take (layers l) (drop at symbols)

module _ {A : Type 0} (f : Field A) where
  open f use {ops}
  open f.coding use {elem, val, size}

  -- `count` runs of the sums, and for each of them s runs of each of m trays, one tray after another from the place at on, all of symbols
  pub record InTrays (s run count : ℕ) (symbols : List ℕ) (at far m : ℕ) (sums : List ℕ) : Type 0 where
    pub some : 0 < run
    pub some_runs : 0 < count
    pub some_digits : 0 < s
    pub some_trays : 0 < m
    pub whole : far ≡ count * s * run
    pub long : at + m * far ≤ length symbols
    pub room : count * run ≤ length sums
    pub given : InRange f.coding symbols
    pub held : (n : ℕ) → n < count * run → get_or sums n 0 < size
    pub few : m * s ≤ 240

  -- what `add_sums` is told
  pub record Summing (l : Layout) (h : ℕ) (symbols : List ℕ) (at m : ℕ) (sums : List ℕ) : Type 0 where
    pub adm : Admissible f.order l
    pub long : at + m * layers l ≤ length symbols
    pub room : groups l ≤ length sums
    pub host_in : h < l.racks
    pub some_trays : 0 < m
    pub at_once : m ≤ 4
    pub given : InRange f.coding symbols
    pub held : (n : ℕ) → n < groups l → get_or sums n 0 < size

  -- what feeding m trays is told
  pub record Feeding (l : Layout) (e h : ℕ) (symbols : List ℕ) (at m : ℕ) (shares : List ℕ) : Type 0 where
    pub adm : Admissible f.order l
    pub long : at + m * layers l ≤ length symbols
    pub room : length shares ≡ e * groups l
    pub host_in : h < l.racks
    pub some : 0 < e
    pub few : e ≤ l.size
    pub some_trays : 0 < m
    pub at_once : m ≤ 4
    pub given : InRange f.coding symbols
    pub held : InRange f.coding shares

  -- what `gather` is told
  pub record Gathering (l : Layout) (e host helper : ℕ) (rack out : List ℕ) : Type 0 where
    pub adm : Admissible f.order l
    pub long : length rack ≡ l.size * layers l
    pub room : length out ≡ e * groups l
    pub host_in : host < l.racks
    pub helper_in : helper < l.racks
    pub some : 0 < e
    pub few : e + l.dimension % l.size ≤ l.size
    pub given : InRange f.coding rack

  -- number i of run q of the tray at a place, with digit b
  unfoldable pub layered : ℕ → ℕ → List ℕ → ℕ → ℕ → ℕ → ℕ → A
  layered s run symbols at q i b = elem (get_or symbols (at + ((q * s + b) * run + i)) 0)

  -- to number i of run q of the sums those of m trays with all digits are added
  pub record TraysAdded (s run count : ℕ) (symbols : List ℕ) (at far m : ℕ) (was is : List ℕ) : Type 0 where
    pub same : length is ≡ length was
    pub done : (q i : ℕ) → q < count → i < run →
        elem (get_or is (q * run + i) 0) ≡ ops.add (elem (get_or was (q * run + i) 0)) (sum ops m (λ g. sum ops s (layered s run symbols (at + g * far) q i)))
    pub small : 0 < m → (q i : ℕ) → q < count → i < run → get_or is (q * run + i) 0 < size
    pub rest : (k : ℕ) → count * run ≤ k → get_or is k 0 ≡ get_or was k 0

  -- the same where that was done to the first n numbers of each run
  pub record AcrossAdded (s run count n : ℕ) (symbols : List ℕ) (at far m : ℕ) (was is : List ℕ) : Type 0 where
    pub same : length is ≡ length was
    pub done : (q i : ℕ) → q < count → i < n → i < run →
        elem (get_or is (q * run + i) 0) ≡ ops.add (elem (get_or was (q * run + i) 0)) (sum ops m (λ g. sum ops s (layered s run symbols (at + g * far) q i)))
    pub small : (q i : ℕ) → q < count → i < n → i < run → get_or is (q * run + i) 0 < size
    pub later : (q i : ℕ) → n ≤ i → i < run → get_or is (q * run + i) 0 ≡ get_or was (q * run + i) 0
    pub rest : (k : ℕ) → count * run ≤ k → get_or is k 0 ≡ get_or was k 0

  -- the sum of a tray's symbols over group p
  abbrev pub sum_at : Layout → ℕ → List ℕ → ℕ → A
  sum_at l h symbols p = group_sum (shape_of f l) h p (λ j. elem (get_or symbols j 0))

  -- those sums of m trays are added to the first numbers of a list
  pub record Summed (l : Layout) (h : ℕ) (symbols : List ℕ) (at m : ℕ) (was is : List ℕ) : Type 0 where
    pub same : length is ≡ length was
    pub done : (p : ℕ) → p < groups l → elem (get_or is p 0) ≡ ops.add (elem (get_or was p 0)) (sum ops m (λ g. sum_at l h (cut l symbols (at + g * layers l)) p))
    pub small : (p : ℕ) → p < groups l → get_or is p 0 < size
    pub rest : (p : ℕ) → groups l ≤ p → get_or is p 0 ≡ get_or was p 0

  -- tray x's parts of the weights from 1 on and below m are added
  pub record Added (l : Layout) (h x : ℕ) (symbols was is : List ℕ) (m : ℕ) : Type 0 where
    pub same : length is ≡ length was
    pub first : (n : ℕ) → n < groups l → get_or is n 0 ≡ get_or was n 0
    pub low : (n : ℕ) → groups l ≤ n → n < m * groups l → elem (get_or is n 0) ≡ ops.add (elem (get_or was n 0)) (part_at f l h x symbols n)
    pub small : (n : ℕ) → groups l ≤ n → n < m * groups l → get_or is n 0 < size
    pub high : (n : ℕ) → m * groups l ≤ n → get_or is n 0 ≡ get_or was n 0

  -- number n of the parts of m trays from tray x on
  unfoldable pub parts_at : Layout → ℕ → ℕ → List ℕ → ℕ → ℕ → ℕ → A
  parts_at l h x symbols at m n = sum ops m (λ k. part_at f l h (x + k) (cut l symbols (at + k * layers l)) n)

  -- these of the weights from 1 on are added to e shares
  pub record Rested (l : Layout) (e h x : ℕ) (symbols : List ℕ) (at m : ℕ) (was is : List ℕ) : Type 0 where
    pub same : length is ≡ length was
    pub range : InRange f.coding is
    pub first : (n : ℕ) → n < groups l → get_or is n 0 ≡ get_or was n 0
    pub later : (n : ℕ) → groups l ≤ n → n < e * groups l → elem (get_or is n 0) ≡ ops.add (elem (get_or was n 0)) (parts_at l h x symbols at m n)

  -- what e shares hold once m trays are fed
  unfoldable pub fed_trays : Layout → ℕ → ℕ → ℕ → List ℕ → ℕ → ℕ → List ℕ → List ℕ
  fed_trays l e h x symbols at m held = table (λ n. val (ops.add (elem (get_or held n 0)) (parts_at l h x symbols at m n))) (e * groups l)
