-- THE SIXTEEN-TRAY BOX (W11): everything that is promised of it, proved by `claims_box` (proofs/Box.antt).
-- Assumes nothing.
use Rattle.std.specs.Prelude.{◌≡◌, true, List, [], ◌∷◌, ◌↔◌, ◌⊎◌, ℕ, ◌+◌, ◌*◌, ◌/◌, ◌%◌, ◌^◌, ◌≤◌, ◌<◌, length, get_or}
use Rattle.std.specs.Int.Bits.{bit_xor}
use Rattle.lists.specs.Lists.{absent, all_below, strictly_rising}
use Rattle.algebra.specs.Sum.{pow}
use Rattle.algebra.specs.Shape.{FieldLaws}
use Rattle.algebra.specs.Lagrange.{Distinct}
use Rattle.nibble.specs.Arithmetic.{◌⊗◌, ypow}
use Rattle.nibble.specs.Elem.{gf16}
use Rattle.box_words.specs.Box.{points, point, h_at, h_of, value, Data, Word, word_of}
use Rattle.box_words.specs.Store.{store_refusal, store_buffer}
use Rattle.box_recover.specs.Recover.{recover_refusal, data_refusal, Survivors, RecoverAnswer, DataAnswer}
use Rattle.box_repair.specs.declared.Repaired.{Repaired}
use Rattle.box_repair.specs.Share.{rack_of, Top, share_refusal, ShareAnswer}
use Rattle.box_repair.specs.Repair.{repair_refusal, RepairAnswer, Sent}
use Rattle.box_repair.specs.Examples.{AllHold, examples}
use Rattle.claims.specs.Words.{Refuses, Grounded}

-- the field and the points
pub record BoxField : Type 0 where
  -- "field of 16 by x^4 + x + 1 with root y": sums are exclusive or, products by shift and add (`◌⊗◌`); the powers 1, y, y^2, y^3 are the numbers 1, 2, 4, 8, and y^4 is
  -- y + 1, the number 3
  pub field : FieldLaws gf16
  pub adds : (a b : ℕ) → a < 16 → b < 16 → gf16.coding.val (gf16.ops.add (gf16.coding.elem a) (gf16.coding.elem b)) ≡ bit_xor a b
  pub multiplies : (a b : ℕ) → a < 16 → b < 16 → gf16.coding.val (gf16.ops.mul (gf16.coding.elem a) (gf16.coding.elem b)) ≡ a ⊗ b
  pub low_powers : (i : ℕ) → i < 4 → gf16.coding.val (pow gf16.ops gf16.root i) ≡ 2 ^ i
  pub fourth_power : gf16.coding.val (pow gf16.ops gf16.root 4) ≡ 3
  pub root : (gf16.coding.val gf16.root ≡ 2) × (gf16.order ≡ 15) × (gf16.coding.size ≡ 16)
  -- "The sixteen powers .. stand as constants (powers y^0 to y^15, the last 1 again)"
  pub powers : (i : ℕ) → i < 16 → ypow i ≡ get_or (1 ∷ 2 ∷ 4 ∷ 8 ∷ 3 ∷ 6 ∷ 12 ∷ 11 ∷ 5 ∷ 10 ∷ 7 ∷ 14 ∷ 15 ∷ 13 ∷ 9 ∷ 1 ∷ []) i 0
  -- "Rack 1 has points 0, 1, y^5, y^10; rack 2 y, y^2, y^4, y^8; rack 3 y^6, y^7, y^9, y^13; rack 4 y^3, y^11, y^12, y^14"
  pub points_are : points ≡ 0 ∷ 1 ∷ ypow 5 ∷ ypow 10 ∷ ypow 1 ∷ ypow 2 ∷ ypow 4 ∷ ypow 8 ∷ ypow 6 ∷ ypow 7 ∷ ypow 9 ∷ ypow 13 ∷ ypow 3 ∷ ypow 11 ∷ ypow 12 ∷ ypow 14 ∷ []
  pub points_differ : Distinct point 16
  -- "four racks sorted by h(x) = x + x^4 .. h is 0, 1, y^5 and y^10 there"
  pub sorted_by_h : (x : ℕ) → x < 16 → h_at (point x) ≡ h_of (x / 4)

-- "Refusals 2 to 6 and 8 apply": every call's grounds; a refusal gives its number, every other number zero, and changes no symbol; the contracts decide every answer
pub record BoxGrounds : Type 0 where
  pub store : (given out : List ℕ) → (Refuses (store_refusal given (length out)) → store_buffer given out ≡ out)
      × (store_refusal given (length out) ≡ 0 → (store_buffer given out ≡ word_of given) × Word (store_buffer given out))
  pub recover : (es c d : List ℕ) (n : ℕ) → RecoverAnswer es c d n → (Refuses (recover_refusal es c) → n ≡ recover_refusal es c) × (Refuses n → d ≡ c)
  pub data_back : (es c old new : List ℕ) (n : ℕ) → DataAnswer es c old new n →
      (Refuses (data_refusal es c (length old)) → n ≡ data_refusal es c (length old)) × (Refuses n → new ≡ old)
  pub share : (host helper : ℕ) (vs old new : List ℕ) (n : ℕ) → ShareAnswer host helper vs old new n → Grounded (share_refusal host helper vs (length old)) n old new
  pub repair : (lost : ℕ) (hs shares rack old new : List ℕ) (r : Repaired) → RepairAnswer lost hs shares rack old new r →
      let reason = repair_refusal lost hs shares rack (length old) in Grounded reason r.refusal old new × (Refuses reason → r ≡ record { refusal = reason; crossed = 0 })
  pub recover_one : (es c d d' : List ℕ) (n n' : ℕ) → RecoverAnswer es c d n → RecoverAnswer es c d' n' → (n ≡ n') × (d ≡ d')
  pub data_one : (es c old d d' : List ℕ) (n n' : ℕ) → DataAnswer es c old d n → DataAnswer es c old d' n' → (n ≡ n') × (d ≡ d')
  pub share_one : (host helper : ℕ) (vs old new new' : List ℕ) (n n' : ℕ) → ShareAnswer host helper vs old new n → ShareAnswer host helper vs old new' n' → (n ≡ n') × (new ≡ new')
  pub repair_one : (lost : ℕ) (hs shares old rack new new' : List ℕ) (r r' : Repaired) → RepairAnswer lost hs shares rack old new r → RepairAnswer lost hs shares rack old new' r' →
      (r.refusal ≡ r'.refusal) × (r.crossed ≡ r'.crossed) × (new ≡ new')
  -- "A value above 15 gets 3 ..": past ground 2
  pub store_above : (given : List ℕ) → length given ≡ 7 → (i : ℕ) → i < 7 → 16 ≤ get_or given i 0 → store_refusal given 16 ≡ 3
  pub recover_above : (es c : List ℕ) → length c ≡ 16 → (x : ℕ) → x < 16 → absent es x ≡ true → 16 ≤ get_or c x 0 → (recover_refusal es c ≡ 3) × (data_refusal es c 7 ≡ 3)
  pub share_above : (host helper : ℕ) (vs : List ℕ) → length vs ≡ 4 → (i : ℕ) → i < 4 → 16 ≤ get_or vs i 0 → share_refusal host helper vs 1 ≡ 3
  pub repair_above : (lost : ℕ) (hs shares rack : List ℕ) → length shares ≡ 2 → length rack ≡ 4 →
      ((i : ℕ) → i < 2 → 16 ≤ get_or shares i 0 → repair_refusal lost hs shares rack 1 ≡ 3)
      × ((g : ℕ) → g < 4 → ¬ (g ≡ lost % 4) → 16 ≤ get_or rack g 0 → repair_refusal lost hs shares rack 1 ≡ 3)
  -- ".. unless it is never looked at": the old values of erased trays and of the lost one, refusals included
  pub recover_unread : (es c c' d d' : List ℕ) (n n' : ℕ) → RecoverAnswer es c d n → RecoverAnswer es c' d' n' → Survivors es c c' → (n ≡ n') × (n ≡ 0 → d ≡ d')
  pub data_unread : (es c c' old old' d d' : List ℕ) (n n' : ℕ) → DataAnswer es c old d n → DataAnswer es c' old' d' n' → Survivors es c c' → length old ≡ length old' →
      (n ≡ n') × (n ≡ 0 → d ≡ d')
  pub repair_unread : (lost : ℕ) (hs shares old rack rack' new new' : List ℕ) (r r' : Repaired) → length rack ≡ length rack' →
      ((g : ℕ) → g < 4 → ¬ (g ≡ lost % 4) → get_or rack g 0 ≡ get_or rack' g 0) → RepairAnswer lost hs shares rack old new r → RepairAnswer lost hs shares rack' old new' r' →
      (r.refusal ≡ r'.refusal) × (r.crossed ≡ r'.crossed) × (new ≡ new')

pub record Box : Type 0 where
  pub field : BoxField
  pub grounds : BoxGrounds
  -- "Store, recover from any 7": different data have different words, and any seven values give back the word and the data
  pub words_differ : (d e : List ℕ) → Data d → Data e → word_of d ≡ word_of e → d ≡ e
  pub any_seven : (es c d w : List ℕ) (n : ℕ) → RecoverAnswer es c d n → all_below es 16 ≡ true → strictly_rising es ≡ true → length es ≤ 9 →
      Word w → Survivors es c w → (n ≡ 0) × (d ≡ w)
  pub data_any_seven : (es c old new d : List ℕ) (n : ℕ) → DataAnswer es c old new n → length old ≡ 7 → all_below es 16 ≡ true → strictly_rising es ≡ true → length es ≤ 9 →
      Data d → Survivors es c (word_of d) → (n ≡ 0) × (new ≡ d)
  -- 8 exactly when no word has the survivors
  pub eight_exactly : (es c d : List ℕ) (n : ℕ) → RecoverAnswer es c d n → recover_refusal es c ≡ 0 → (n ≡ 8) ↔ ((e : List ℕ) → Word e → Survivors es c e → ⊥)
  pub data_eight : (es c old d : List ℕ) (n : ℕ) → DataAnswer es c old d n → data_refusal es c (length old) ≡ 0 →
      (n ≡ 8) ↔ ((e : List ℕ) → Data e → Survivors es c (word_of e) → ⊥)
  -- "each sends the top coefficient (of x^3) of the polynomial of degree below 4 through its four values": there is one and only one
  pub top_one : (i : ℕ) (vs : List ℕ) → i < 4 → ((s t : ℕ) → Top i vs s → Top i vs t → s ≡ t) × ((s : ℕ) × Top i vs s)
  -- "The source's Lemma 1 makes these values of a polynomial in h of degree at most 1": where the four values are those of a polynomial d of degree below 8
  pub lemma_1 : (d vs : List ℕ) (i s : ℕ) → i < 4 → ((g : ℕ) → g < 4 → gf16.coding.elem (get_or vs g 0) ≡ value 8 d (point (i * 4 + g))) → Top i vs s →
      gf16.coding.elem s ≡ gf16.ops.add (gf16.ops.add (gf16.coding.elem (get_or d 3 0)) (gf16.coding.elem (get_or d 6 0))) (gf16.ops.mul (gf16.coding.elem (get_or d 7 0)) (h_of i))
  -- "for k = 7 all four are equal"
  pub tops_equal : (c : List ℕ) → Word c → (i j s t : ℕ) → i < 4 → j < 4 → Top i (rack_of i c) s → Top j (rack_of j c) t → s ≡ t
  -- "repair one lost tray from any two other racks"; "Two symbols cross."
  pub repair_exact : (c : List ℕ) (lost : ℕ) (hs shares rack old new : List ℕ) (r : Repaired) → RepairAnswer lost hs shares rack old new r →
      length shares ≡ 2 → length rack ≡ 4 → length old ≡ 1 → lost < 16 → all_below hs 4 ≡ true → strictly_rising hs ≡ true → length hs ≡ 2 → absent hs (lost / 4) ≡ true →
      Sent c lost hs shares rack → (r.refusal ≡ 0) × (r.crossed ≡ 2) × (new ≡ get_or c lost 0 ∷ [])
  -- what the share calls left of a word's racks is what this asks for
  pub sent_by_calls : (c rack old₁ old₂ new₁ new₂ : List ℕ) (lost i j n₁ n₂ : ℕ) → Word c →
      ShareAnswer (lost / 4) i (rack_of i c) old₁ new₁ n₁ → ShareAnswer (lost / 4) j (rack_of j c) old₂ new₂ n₂ → n₁ ≡ 0 → n₂ ≡ 0 →
      ((g : ℕ) → g < 4 → ¬ (g ≡ lost % 4) → get_or rack g 0 ≡ get_or c (lost / 4 * 4 + g) 0) → Sent c lost (i ∷ j ∷ []) (get_or new₁ 0 0 ∷ get_or new₂ 0 0 ∷ []) rack
  -- "so two that differ get 8": past the other grounds, exactly when no word has these shares and values
  pub repair_eight : (lost : ℕ) (hs shares rack old new : List ℕ) (r : Repaired) → RepairAnswer lost hs shares rack old new r →
      (Refuses r.refusal → r.refusal ≡ 8) → (r.refusal ≡ 8) ↔ ((c : List ℕ) → Sent c lost hs shares rack → ⊥)
  -- Example 1 of source document 003
  pub example_1 : AllHold examples
