-- Methods of restoring one lost tray x from d helpers, and what is claimed of them, over any field. A method is any number of symbols for each helper, any rule by
-- which a helper works its symbols out from its own rack, and any rule by which the lost tray is made from them; for each layout, lost tray and list of helpers it may
-- be another. Layouts, codewords, racks, trays and shares are those of the calls.
-- Assumes nothing.
use Rattle.std.specs.Prelude.{◌≡◌, List, [], ◌++◌, ℕ, zero, suc, ◌+◌, ◌*◌, ◌/◌, ◌%◌, ◌≤◌, ◌<◌, get_or, take, drop}
use Rattle.lists.specs.Lists.{table}
use Rattle.algebra.specs.Erasure.{Places}
use Rattle.algebra.specs.Shape.{Field}
use Rattle.layout.specs.declared.Layout.{Layout}
use Rattle.layout.specs.Layout.{digits, layers, groups, traffic}
use Rattle.codeword.specs.Codeword.{Codeword}
use Rattle.rule.specs.Rule.{rack_part, tray_part, share_symbol}

-- count 0 + .. + count (n - 1)
unfoldable pub total : (ℕ → ℕ) → ℕ → ℕ
total count zero = 0
total count (suc n) = total count n + count n

-- the lists part 0, .., part (n - 1), one after another
unfoldable pub joined : (ℕ → List ℕ) → ℕ → List ℕ
joined part zero = []
joined part (suc n) = joined part n ++ part n

-- the trays of the host rack other than the lost tray x, one after another
unfoldable pub other_trays : Layout → ℕ → List ℕ → List ℕ
other_trays l x host = take (x % l.size * layers l) host ++ drop (x % l.size * layers l + layers l) host

-- what the helpers send: the k-th sends `count k` symbols, whatever is stored; the i-th of them is worked out, by any rule at all, from the u·L numbers of that
-- helper's own rack, and from nothing else
pub record Sending (A : Type 0) : Type 0 where
  pub count : ℕ → ℕ
  pub symbol : ℕ → List ℕ → ℕ → A

-- some s of the d helpers, by their places in the list, send fewer than L symbols together
pub record FewSent {A : Type 0} (l : Layout) (by : Sending A) : Type 0 where
  pub some : ℕ → ℕ
  pub chosen : Places some (digits l) l.helpers
  pub few : total (λ i. by.count (some i)) (digits l) < layers l

module _ {A : Type 0} (f : Field A) (l : Layout) (helpers : List ℕ) (by : Sending A) where
  -- the k-th helper's message where the codeword c is stored
  unfoldable pub message : List ℕ → ℕ → List ℕ
  message c k = table (λ i. f.coding.val (by.symbol k (rack_part l c (get_or helpers k 0)) i)) (by.count k)

  -- the d messages, one after another
  unfoldable pub messages : List ℕ → List ℕ
  messages c = joined (message c) l.helpers

  -- the symbols that cross, all messages together
  unfoldable pub crossing : ℕ
  crossing = total by.count l.helpers

module _ {A : Type 0} (f : Field A) (l : Layout) (x : ℕ) (helpers : List ℕ) (by : Sending A) where
  -- a method that always restores: a rule, any at all, that gives the lost tray of every codeword from the messages and the host rack's other trays
  pub record Restoring : Type 0 where
    pub restore : List ℕ → List ℕ → List ℕ
    pub exact : (c : List ℕ) → Codeword f l c → restore (messages f l helpers by c) (other_trays l x (rack_part l c (x / l.size))) ≡ tray_part l c x

  -- two codewords alike in every message and in the host rack's other trays, but different in the lost tray
  pub record Confused : Type 0 where
    pub one : List ℕ
    pub two : List ℕ
    pub one_codeword : Codeword f l one
    pub two_codeword : Codeword f l two
    pub messages_alike : (k : ℕ) → k < l.helpers → message f l helpers by one k ≡ message f l helpers by two k
    pub others_alike : other_trays l x (rack_part l one (x / l.size)) ≡ other_trays l x (rack_part l two (x / l.size))
    pub tray_differs : ¬ (tray_part l one x ≡ tray_part l two x)

-- document 01's way: each helper sends its share for the lost tray's rack, L/s symbols
abbrev pub sharing : {A : Type 0} → Field A → Layout → ℕ → Sending A
sharing f l x = record { count = λ k. groups l; symbol = λ k rack p. share_symbol f l 0 (x / l.size) rack p }

-- what is claimed: methods of which some s helpers send too little confuse two codewords, so that nothing restores the tray; shares restore it, and they are d·L/s
-- symbols; and in every method that restores it at least so many cross
pub record TrulyLeast {A : Type 0} (f : Field A) (l : Layout) (x : ℕ) (helpers : List ℕ) : Type 0 where
  pub confuses : (by : Sending A) → FewSent l by → Confused f l x helpers by
  pub restores : Restoring f l x helpers (sharing f l x)
  pub crosses : crossing f l helpers (sharing f l x) ≡ traffic l
  pub no_less : (by : Sending A) → Restoring f l x helpers by → traffic l ≤ crossing f l helpers by
