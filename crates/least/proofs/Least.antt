-- Where some s of the helpers send fewer than L symbols together, two codewords with different lost trays look alike; so d·L/s is the least.
-- Assumes nothing.
use mathlib.Core.Path.{◌≡◌, refl, sym, ◌∙◌, ap, ap₂, subst}
use mathlib.Core.List.{List}
use Prim.Native.Nat.{ℕ, suc, ◌+◌, ◌-◌, ◌*◌, ◌/◌, ◌%◌, ◌^◌, ◌≤◌, ◌<◌}
use native.Mathlib.Nat.{mod-lt, mul_comm, mul_left_comm, le_of_mul-le-mul_left, pow-suc}
use native.Mathlib.Decide.{dec_lt}
use native.Mathlib.Omega.{arith}
use lib.Arith.{digits_div, digits_mod}
use lib.Dec.{eqb}
use lib.ListN.{length, get_or}
use Rattle.lists.specs.Lists.{table}
use Rattle.lists.proofs.Numbers.{cell_in}
use Rattle.lists.proofs.Tables.{table_length, table_same}
use Rattle.algebra.specs.Erasure.{choose, Places}
use Rattle.algebra.specs.Shape.{Field, FieldLaws}
use Rattle.algebra.specs.Repair.{restored}
use Rattle.algebra.proofs.Erasure.{place_cases}
use Rattle.algebra.proofs.Restore.{restored_others, restored_codeword}
use Rattle.algebra.proofs.Cabinet.{choose_same, choose_other}
use Rattle.layout.specs.declared.Layout.{Layout}
use Rattle.layout.specs.Layout.{whole_racks, checks, digits, layers, groups, traffic}
use Rattle.codeword.specs.Codeword.{shape_of, Codeword, Solvable}
use Rattle.codeword.proofs.Buffers.{layers_pos}
use Rattle.codeword.proofs.Words.{buffer_of, buffer_long, buffer_at, buffer_codeword}
use Rattle.rule.specs.Rule.{rack_part, tray_part, Helpers}
use Rattle.rule.proofs.Racks.{tray_at, rack_long}
use Rattle.rule.proofs.Rule.{host_in, helping}
use Rattle.least.specs.Least.{total, Sending, FewSent, message, messages, crossing, Restoring, Confused}
use Rattle.least.proofs.Pigeon.{Indistinct, indistinct}
use Rattle.least.proofs.Totals.{total_below, flat, flat_at, windows, window_places, joined_long, joined_same}
use Rattle.least.proofs.Chosen.{parity, parity_places, parity_host, parity_left_out}
use Rattle.least.proofs.Same.{rack_number, racks_same, others_same}

-- a field has at least two elements
pub two_symbols : {A : Type 0} (f : Field A) → FieldLaws f → 1 < f.coding.size
two_symbols f k = go (dec_lt 1 f.coding.size)
  where
    go : Dec (1 < f.coding.size) → 1 < f.coding.size
    go (yes h) = h
    go (no h) = absurd (k.laws.one_not_zero (sym (k.coded.elem_val _) ∙ ap f.coding.elem (same (k.coded.val_below _) (k.coded.val_below _)) ∙ k.coded.elem_val _))
      where
        same : {a b : ℕ} → a < f.coding.size → b < f.coding.size → a ≡ b
        same p q = omega arith

-- L is s times L/s
layers_are : {A : Type 0} (f : Field A) (l : Layout) → Solvable f l → layers l ≡ digits l * groups l
layers_are f l ok =
    ap (λ n. digits l ^ n) (more l.racks ok.usable.fits.some_racks) ∙ pow-suc (digits l) (l.racks - 1)
    ∙ mul_comm (digits l ^ (l.racks - 1)) (digits l) ∙ ap (λ n. digits l * n) (sym ok.groups_are)
  where
    more : (n : ℕ) → 0 < n → n ≡ suc (n - 1)
    more n h = omega arith

-- what crosses is as many symbols as are handed over
pub crossing_is : {A : Type 0} (f : Field A) (l : Layout) (helpers : List ℕ) (by : Sending A) (c : List ℕ) → length (messages f l helpers by c) ≡ crossing f l helpers by
unfolding messages crossing message
crossing_is f l helpers by c = joined_long _ by.count l.helpers (λ k h. table_length _ (by.count k))

module _ {A : Type 0} (f : Field A) (l : Layout) (ok : Solvable f l) (x : ℕ) (helpers : List ℕ) (help : Helpers l x helpers) (by : Sending A) where
  module _ (little : FewSent l by) where
    open little use {some, chosen, few}

    erased : ℕ → ℕ
    erased = parity f l ok x helpers help some chosen

    -- the codeword whose lost tray is w, and whose other trays in the host rack and in the racks of the helpers left out are zero
    word : (ℕ → A) → ℕ → ℕ → A
    word w = restored (shape_of f l) erased (checks l) (λ y j. choose (eqb y x) (w j) f.ops.zero)

    stored : (ℕ → A) → List ℕ
    stored w = buffer_of f l (word w)

    stored_codeword : (w : ℕ → A) → Codeword f l (stored w)
    unfolding stored word erased
    stored_codeword w = buffer_codeword f l _ ok.usable (restored_codeword (shape_of f l) ok.usable.fits _ (checks l) (parity_places f l ok x helpers help some chosen) _)

    -- a tray that the checks do not determine
    word_given : (w : ℕ → A) (y j : ℕ) → ((t : ℕ) → ¬ (y ≡ erased t)) → word w y j ≡ choose (eqb y x) (w j) f.ops.zero
    unfolding word erased
    word_given w y j out = restored_others (shape_of f l) ok.usable.fits _ (checks l) (parity_places f l ok x helpers help some chosen) _ y j (λ t h. out t)

    lost_symbol_lem : (w : ℕ → A) (j : ℕ) → j < layers l → get_or (tray_part l (stored w) x) j 0 ≡ f.coding.val (w j)
    unfolding stored erased
    lost_symbol_lem w j h =
        tray_at l (stored w) x j h ∙ buffer_at f l (word w) x j help.lost_in h
        ∙ ap f.coding.val (word_given w x j (parity_host f l ok x helpers help some chosen x refl) ∙ choose_same x x _ _ refl)

    -- racks in which the checks determine no tray hold the same whatever the lost tray is, but for that tray
    module _ (i : ℕ) (hi : i < l.racks) (out : (y : ℕ) → y / l.size ≡ i → (t : ℕ) → ¬ (y ≡ erased t)) (w v : ℕ → A) where
      stored_same : (g j : ℕ) → g < l.size → j < layers l → ¬ (i * l.size + g ≡ x) →
          get_or (rack_part l (stored w) i) (g * layers l + j) 0 ≡ get_or (rack_part l (stored v) i) (g * layers l + j) 0
      unfolding stored
      stored_same g j hg hj d = number w ∙ ap f.coding.val (zero w ∙ sym (zero v)) ∙ sym (number v)
        where
          number : (w : ℕ → A) → get_or (rack_part l (buffer_of f l (word w)) i) (g * layers l + j) 0 ≡ f.coding.val (word w (i * l.size + g) j)
          number w = rack_number l (buffer_of f l (word w)) i g j hg hj ∙ buffer_at f l (word w) (i * l.size + g) j (cell_in l.racks l.size i g hi hg) hj

          zero : (w : ℕ → A) → word w (i * l.size + g) j ≡ f.ops.zero
          zero w = word_given w (i * l.size + g) j (out _ (digits_div i hg)) ∙ choose_other _ x _ _ d

    rack_is_long : (w : ℕ → A) (i : ℕ) → i < l.racks → length (rack_part l (stored w) i) ≡ l.size * layers l
    unfolding stored
    rack_is_long w i h = rack_long l (buffer_of f l (word w)) i h (buffer_long f l (word w))

    -- what the chosen helpers send, as one message of fewer than L symbols
    sent : (ℕ → A) → ℕ → A
    sent w = flat (λ i. by.count (some i)) (λ i j. by.symbol (some i) (rack_part l (stored w) (get_or helpers (some i) 0)) j) (digits l)

    two : Indistinct (layers l) (total (λ i. by.count (some i)) (digits l)) sent
    two = indistinct f.coding ok.usable.field.coded (two_symbols f ok.usable.field) (layers l) _ few sent

    chosen_alike : (i : ℕ) → i < digits l → message f l helpers by (stored two.left) (some i) ≡ message f l helpers by (stored two.right) (some i)
    unfolding message sent
    chosen_alike i h = table_same _ _ (by.count (some i)) (λ j q. ap f.coding.val (
        sym (flat_at (λ i. by.count (some i)) _ (digits l) i j h q)
        ∙ two.alike (total (λ i. by.count (some i)) i + j) (total_below (λ i. by.count (some i)) (digits l) i j h q)
        ∙ flat_at (λ i. by.count (some i)) _ (digits l) i j h q))

    left_out_alike : (k : ℕ) → k < l.helpers → ((i : ℕ) → i < digits l → ¬ (k ≡ some i)) →
        message f l helpers by (stored two.left) k ≡ message f l helpers by (stored two.right) k
    unfolding message erased
    left_out_alike k h out = ap (λ r. table_of r) (racks_same l (layers_pos f l ok.usable) _ _ (rack_is_long _ i hi) (rack_is_long _ i hi)
        (λ g j hg hj. stored_same i hi (parity_left_out f l ok x helpers help some chosen k h out) two.left two.right g j hg hj (other g hg)))
      where
        i : ℕ
        i = get_or helpers k 0

        hi : i < l.racks
        hi = help.inside k h

        table_of : List ℕ → List ℕ
        table_of r = table (λ n. f.coding.val (by.symbol k r n)) (by.count k)

        other : (g : ℕ) → g < l.size → ¬ (i * l.size + g ≡ x)
        other g hg e = help.other k h (sym (digits_div i hg) ∙ ap (λ y. y / l.size) e)

    -- the first theorem
    pub confused : Confused f l x helpers by
    unfolding erased
    confused = record {
      one = stored two.left;
      two = stored two.right;
      one_codeword = stored_codeword two.left;
      two_codeword = stored_codeword two.right;
      messages_alike = λ k h. place_cases (message f l helpers by (stored two.left) k ≡ message f l helpers by (stored two.right) k) some (digits l) k
          (λ i q e. subst (λ n. message f l helpers by (stored two.left) n ≡ message f l helpers by (stored two.right) n) (sym e) (chosen_alike i q))
          (λ out. left_out_alike k h out);
      others_alike = others_same l (layers_pos f l ok.usable) x (mod-lt x ok.usable.fits.some_places) _ _ (rack_is_long _ (x / l.size) host) (rack_is_long _ (x / l.size) host)
          (λ g j hg hj d. stored_same (x / l.size) host (parity_host f l ok x helpers help some chosen) two.left two.right g j hg hj (λ e. d (place g hg e)));
      tray_differs = λ e. two.differ (sym (ok.usable.field.coded.elem_val _) ∙ ap f.coding.elem (
          sym (lost_symbol_lem two.left two.at two.inside) ∙ ap (λ t. get_or t two.at 0) e ∙ lost_symbol_lem two.right two.at two.inside) ∙ ok.usable.field.coded.elem_val _);
    }
      where
        host : x / l.size < l.racks
        host = host_in f l ok x helpers help

        place : (g : ℕ) → g < l.size → x / l.size * l.size + g ≡ x → g ≡ x % l.size
        place g hg e = sym (digits_mod (x / l.size) hg) ∙ ap (λ y. y % l.size) e

  -- a method that always restores confuses no two codewords
  pub restoring_clear : Restoring f l x helpers by → ¬ Confused f l x helpers by
  unfolding messages
  restoring_clear r c = c.tray_differs (
      sym (r.exact c.one c.one_codeword)
      ∙ ap₂ r.restore (joined_same (message f l helpers by c.one) (message f l helpers by c.two) l.helpers c.messages_alike) c.others_alike
      ∙ r.exact c.two c.two_codeword)

  -- the second theorem needs only that no two codewords are so confused
  module _ (wide : 0 < whole_racks l) (clear : ¬ Confused f l x helpers by) where
    -- every s of the helpers send at least L symbols together
    pub some_send : (some : ℕ → ℕ) → Places some (digits l) l.helpers → layers l ≤ total (λ i. by.count (some i)) (digits l)
    some_send some chosen = go (dec_lt (total (λ i. by.count (some i)) (digits l)) (layers l))
      where
        go : Dec (total (λ i. by.count (some i)) (digits l) < layers l) → layers l ≤ total (λ i. by.count (some i)) (digits l)
        go (yes h) = absurd (clear (confused (record { some = some; chosen = chosen; few = h })))
        go (no h) = omega arith

    -- with no division ..
    pub least_times : l.helpers * layers l ≤ digits l * crossing f l helpers by
    unfolding crossing
    least_times = windows by.count (digits l) l.helpers (layers l) (λ t h. some_send (λ i. (t + i) % l.helpers) (window_places (digits l) l.helpers t enough h))
      where
        enough : digits l ≤ l.helpers
        enough = let t = helping f l ok x helpers help in omega (arith, t.total)

    -- .. and as document 01 counts: no less than d·L/s symbols cross
    pub least : traffic l ≤ crossing f l helpers by
    least = le_of_mul-le-mul_left (subst (λ n. n ≤ digits l * crossing f l helpers by) whole least_times) ok.usable.fits.some_digits
      where
        whole : l.helpers * layers l ≡ digits l * (l.helpers * groups l)
        whole = ap (λ n. l.helpers * n) (layers_are f l ok) ∙ mul_left_comm l.helpers (digits l) (groups l)
