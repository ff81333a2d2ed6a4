-- Document 01's shares and its rule of repair are a method that always restores the lost tray, with d·L/s symbols.
-- Assumes nothing.
use mathlib.Core.Path.{◌≡◌, refl, sym, ◌∙◌, ap, ap₂, subst}
use mathlib.Core.List.{List, [], ◌∷◌, ◌++◌}
use Prim.Native.Nat.{ℕ, ◌+◌, ◌-◌, ◌*◌, ◌/◌, ◌%◌, ◌≤◌, ◌<◌}
use native.Mathlib.Nat.{mod-lt, add-mul, one-mul, mul-le-mul_right}
use native.Mathlib.Decide.{dec_lt}
use native.Mathlib.Omega.{arith}
use lib.ListN.{length, get_or, take, drop, replicate, length-replicate, get_or-append}
use lib.Seq.{take_at, drop_at, get_or-take, get_or-drop, get_or-append-add, length-take-le, ext_get_or}
use Rattle.lists.proofs.Numbers.{cell_in}
use Rattle.lists.proofs.Tables.{table_length, table_at}
use Rattle.algebra.specs.Shape.{Field}
use Rattle.layout.specs.declared.Layout.{Layout}
use Rattle.layout.specs.Layout.{whole_racks, layers, groups, traffic}
use Rattle.codeword.specs.Codeword.{Codeword, Solvable, symbol_at}
use Rattle.rule.specs.Rule.{rack_part, Helpers, shared_symbol, share_symbol}
use Rattle.rule.specs.Lost.{lost_place, lost_part, Losses, sent_symbol, One, Piece, Of}
use Rattle.rule.proofs.Racks.{rack_long}
use Rattle.rule.proofs.Rule.{host_in, group_below}
use Rattle.rule.proofs.Lost.{rule_one, ruled_same}
use Rattle.rule.proofs.Exact.{rule_whole}
use Rattle.rule.proofs.Single.{zero_is, front, sent_is, one_loss, one_part}
use Rattle.least.specs.Least.{other_trays, message, messages, crossing, Restoring, sharing, TrulyLeast}
use Rattle.least.proofs.Totals.{total_const, joined_at}
use Rattle.least.proofs.Least.{confused, restoring_clear, least}

middle : (a z c : List ℕ) (n m : ℕ) → n ≡ length a + (length z + m) → get_or (a ++ (z ++ c)) n 0 ≡ get_or c m 0
middle a z c n m e = ap (λ i. get_or (a ++ (z ++ c)) i 0) e ∙ get_or-append-add a (z ++ c) (length z + m) 0 ∙ get_or-append-add z c m 0

-- as many zeros
blank : ℕ → List ℕ
blank n = replicate n 0

blank_long : (n : ℕ) → length (blank n) ≡ n
unfolding blank
blank_long n = length-replicate n 0

-- the host rack from its other trays, with zeros for the lost tray
host_from : Layout → ℕ → List ℕ → List ℕ
host_from l x others = take (x % l.size * layers l) others ++ (blank (layers l) ++ drop (x % l.size * layers l) others)

module _ (l : Layout) (x : ℕ) (inside : x % l.size < l.size) (host : List ℕ) (long : length host ≡ l.size * layers l) where
  before : ℕ
  before = x % l.size * layers l

  end : before + layers l ≤ l.size * layers l
  unfolding before
  end = omega (arith, mul-le-mul_right (layers l) inside, add-mul (x % l.size) 1 (layers l), one-mul (layers l))

  front_long : length (take before host) ≡ before
  front_long = length-take-le before host (omega (arith, end, long))

  host_is : host_from l x (other_trays l x host) ≡ take before host ++ (blank (layers l) ++ drop (before + layers l) host)
  unfolding host_from other_trays before
  host_is = ap₂ (λ a b. a ++ (blank (layers l) ++ b)) (take_at (take before host) _ before front_long) (drop_at (take before host) _ before front_long)

  -- the other trays are where they were
  host_others : (g j : ℕ) → g < l.size → j < layers l → ¬ (g ≡ x % l.size) → get_or (host_from l x (other_trays l x host)) (g * layers l + j) 0 ≡ get_or host (g * layers l + j) 0
  unfolding before
  host_others g j hg hj d = ap (λ a. get_or a (g * layers l + j) 0) host_is ∙ go (dec_lt g (x % l.size))
    where
      go : Dec (g < x % l.size) → get_or (take before host ++ (blank (layers l) ++ drop (before + layers l) host)) (g * layers l + j) 0 ≡ get_or host (g * layers l + j) 0
      go (yes k) =
          let low : g * layers l + j < before = cell_in (x % l.size) (layers l) g j k hj in
          get_or-append (take before host) _ 0 (g * layers l + j) (rw front_long low) ∙ get_or-take before host (g * layers l + j) 0 low
      go (no k) =
          middle (take before host) (blank (layers l)) (drop (before + layers l) host) (g * layers l + j) m place
          ∙ get_or-drop (before + layers l) host m 0 ∙ ap (λ n. get_or host n 0) back
        where
          m : ℕ
          m = g * layers l + j - (before + layers l)

          high : before + layers l ≤ g * layers l
          high = omega (arith, mul-le-mul_right (layers l) (above g (x % l.size) k d), add-mul (x % l.size) 1 (layers l), one-mul (layers l))
            where
              above : (a b : ℕ) → ¬ (a < b) → ¬ (a ≡ b) → b + 1 ≤ a
              above a b p q = omega arith

          place : g * layers l + j ≡ length (take before host) + (length (blank (layers l)) + m)
          place = rw (front_long, blank_long (layers l)) (omega (arith, high))

          back : before + layers l + m ≡ g * layers l + j
          back = omega (arith, high)

module _ {A : Type 0} (f : Field A) (l : Layout) (ok : Solvable f l) (x : ℕ) (helpers : List ℕ) (help : Helpers l x helpers) where
  place_in : x % l.size < l.size
  place_in = mod-lt x ok.usable.fits.some_places

  -- what the rule of repair fixes for any shares and other trays of the host rack
  pub rule_gives : List ℕ → List ℕ → List ℕ
  rule_gives shares others = (rule_one f l ok (x ∷ []) helpers (one_loss f l ok x helpers help) shares (host_from l x others)).outcome

  -- the k-th helper's share symbols lie in the messages as document 01 says
  sent : (c : List ℕ) (p k : ℕ) → k < l.helpers → p < groups l →
      shared_symbol f l (messages f l helpers (sharing f l x) c) p k ≡ share_symbol f l 0 (x / l.size) (rack_part l c (get_or helpers k 0)) p
  unfolding shared_symbol messages message
  sent c p k hk hp =
      ap f.coding.elem (joined_at _ (groups l) l.helpers k p (λ i h. table_length _ (groups l)) hk hp ∙ table_at _ (groups l) p hp) ∙ ok.usable.field.coded.elem_val _

  -- the rule of repair gives every codeword's lost tray from its shares and other trays
  pub sharing_restores : Restoring f l x helpers (sharing f l x)
  unfolding rule_gives
  sharing_restores = record { restore = rule_gives; exact = λ c w. whole c w ∙ one_part f l ok x helpers help c w.long }
    where
      of : (c : List ℕ) → Codeword f l c → Of f l (x ∷ []) helpers (messages f l helpers (sharing f l x) c) (host_from l x (other_trays l x (rack_part l c (x / l.size)))) c
      of c w = record {
        codeword = w;
        share = λ m k p hm hk hp.
            subst (λ n. sent_symbol f l 1 (messages f l helpers (sharing f l x) c) n p k ≡ share_symbol f l n (x / l.size) (rack_part l c (get_or helpers k 0)) p) (zero_is m hm)
            (sent_is f l ok.usable x _ p k ∙ sent c p k hk hp);
        sound = λ j hj g hg out. unfold symbol_at lost_place in ap f.coding.elem
            (host_others l x place_in (rack_part l c (x / l.size)) (rack_long l c (x / l.size) (host_in f l ok x helpers help) w.long) g j hg hj (out 0 (omega arith)));
      }

      whole : (c : List ℕ) (w : Codeword f l c) → rule_gives (messages f l helpers (sharing f l x) c) (other_trays l x (rack_part l c (x / l.size))) ≡ lost_part l (x ∷ []) c
      whole c w = unfold rule_gives in
          let given = one_loss f l ok x helpers help in
          let one = rule_one f l ok (x ∷ []) helpers given (messages f l helpers (sharing f l x) c) (host_from l x (other_trays l x (rack_part l c (x / l.size)))) in
          rule_whole f l ok (x ∷ []) helpers given _ _ c (of c w) one.outcome one.long one.ruled

  -- that is d·L/s symbols
  pub sharing_crosses : crossing f l helpers (sharing f l x) ≡ traffic l
  unfolding crossing
  sharing_crosses = total_const (groups l) l.helpers

  -- which is the least
  pub truly_least : 0 < whole_racks l → TrulyLeast f l x helpers
  truly_least wide = record {
    confuses = confused f l ok x helpers help;
    restores = sharing_restores;
    crosses = sharing_crosses;
    no_less = λ by r. least f l ok x helpers help by wide (restoring_clear f l ok x helpers help by r);
  }

  -- a repair of all groups, as the call promises it, leaves in the spare what this method gives
  pub piece_gives : (shares host old new : List ℕ) → length host ≡ l.size * layers l → length old ≡ layers l →
      Piece f l (x ∷ []) helpers shares host 0 (groups l) old new → new ≡ sharing_restores.restore shares (other_trays l x host)
  unfolding rule_gives lost_place symbol_at sharing_restores
  piece_gives shares host old new lh lo piece = ext_get_or 0 new one.outcome (piece.long ∙ lo ∙ sym (one-mul (layers l)) ∙ sym one.long) (λ j h.
      let k : j < layers l = rw (piece.long ∙ lo) at h in
      let g = group_below f l ok x helpers help j k in
      subst (λ n. get_or new n 0 ≡ get_or one.outcome n 0) (front (layers l) j)
      (ruled_same f l ok (x ∷ []) helpers given _ g shares shares host other new one.outcome (piece.done _ (omega arith) (omega (arith, g))) (one.ruled _ g)
      (λ m k p q. refl) (λ i hi e a ha out. ap f.coding.elem (sym (host_others l x place_in host lh a i ha hi (out 0 (omega arith))))) 0 (omega arith) j k refl))
    where
      given : Losses l (x ∷ []) helpers
      given = one_loss f l ok x helpers help

      other : List ℕ
      other = host_from l x (other_trays l x host)

      one : One f l (x ∷ []) helpers shares other
      one = rule_one f l ok (x ∷ []) helpers given shares other
