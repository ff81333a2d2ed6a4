-- A buffer that is read as numbers: its length, its items, writing one, its parts. Over any kind of items.
-- Assumes nothing.
use Rattle.std.proofs.Common.{◌≡◌, List, ℕ, ◌+◌, ◌≤◌, ◌<◌, ◌++◌, length, map, get_or, set, take, drop, sym, ap, ◌∙◌}
use Rattle.std.proofs.Math.ListN.{replicate}
use Rattle.std.proofs.lemmas.List.{length-map, map-set, map-append, get_or-map, take-map, drop-map}
use Rattle.field.specs.Numbers.{AsNumbers}

module _ {S : Type 0} {code : S → ℕ} {codes : List S → List ℕ} (R : AsNumbers code codes) where
  pub codes_length : (xs : List S) → length (codes xs) ≡ length xs
  codes_length xs = ap length (R.each xs) ∙ length-map xs code

  -- room in a buffer
  pub codes_room : (xs : List S) {n : ℕ} → n ≤ length xs → n ≤ length (codes xs)
  codes_room xs h = rw (codes_length xs) h

  pub codes_set : (xs : List S) (i : ℕ) (v : S) → codes (set xs i v) ≡ set (codes xs) i (code v)
  codes_set xs i v = R.each (set xs i v) ∙ map-set code xs i v ∙ ap (λ l. set l i (code v)) (sym (R.each xs))

  -- an item that was read
  pub codes_at : (xs : List S) (i : ℕ) {v : S} → v ≡ get_or xs i v → i < length xs → get_or (codes xs) i 0 ≡ code v
  codes_at xs i {v} e h = ap (λ l. get_or l i 0) (R.each xs) ∙ get_or-map code xs i v 0 h ∙ ap code (sym e)
