-- The bytes of the header, lists that begin with another, and the bytes that a write leaves.
-- Assumes nothing.
use mathlib.Core.Path.{◌≡◌, refl, sym, ap, ◌∙◌}
use mathlib.Core.Bool.{Bool, true}
use mathlib.Core.List.{List, [], ◌∷◌, ◌++◌}
use Prim.Native.Nat.{ℕ, ◌/◌, ◌%◌, ◌≤◌, ◌<◌}
use lib.ListN.{length, get_or, take, drop, take-append-drop, get_or-append}
use lib.Seq.{ext_get_or, get_or-take, length-take-le}
use borrow.Author.Tests.{eqb-true, eq-eqb}
use Rattle.std.specs.Prelude.{nat_eq}
use Rattle.std.specs.List.{starts_with}
use Rattle.std.specs.Cmp.Lexicographic.{bytes_decides}
use Rattle.std.proofs.lemmas.Bool.Decides.{same_from_decides}
use Rattle.lists.proofs.Bools.{all_holds, all_true}
use Rattle.layout.specs.declared.Layout.{Layout}
use Rattle.layout.specs.Layout.{layers}
use Rattle.image.specs.declared.Edition.{Edition}
use Rattle.image.specs.Image.{header_length, little, header, begins}

module _ (ed : Edition) (l : Layout) (tray state volume : ℕ) where
  -- the header byte for byte
  pub header_is : (total x : ℕ) → total ≡ layers l → x ≡ tray →
      ◌≡◌ {A = List ℕ}
      (header_length ∷ 0 ∷ ed.number % 256 ∷ state % 256 ∷ l.racks % 256 ∷ l.size % 256 ∷ l.dimension % 256 ∷ l.helpers % 256 ∷ x % 256 ∷ l.errors % 256 ∷ 0 ∷ 0
      ∷ volume % 256 ∷ volume / 256 % 256 ∷ volume / 256 / 256 % 256 ∷ volume / 256 / 256 / 256 % 256 ∷ header_length ∷ 0 ∷ 0 ∷ 0
      ∷ total % 256 ∷ total / 256 % 256 ∷ total / 256 / 256 % 256 ∷ total / 256 / 256 / 256 % 256 ∷ [])
      (header ed l tray state volume)
  unfolding header little
  header_is total x e f = rw (e, f) refl

  pub header_length_lem : length (header ed l tray state volume) ≡ header_length
  unfolding header little
  header_length_lem = refl

module _ (s front : List ℕ) (h : length front ≤ length s) where
  front_of : begins s front ≡ true → take (length front) s ≡ front
  unfolding begins
  front_of e =
      ext_get_or 0 (take (length front) s) front (length-take-le (length front) s h)
      (λ i k.
      let j : i < length front = rw (sym (length-take-le (length front) s h)) k in
      get_or-take (length front) s i 0 j ∙ eqb-true _ _ (all_holds _ (length front) e i j))

  of_front : take (length front) s ≡ front → begins s front ≡ true
  unfolding begins
  of_front e = all_true _ (length front) (λ i k. eq-eqb _ _ (sym (get_or-take (length front) s i 0 k) ∙ ap (λ l. get_or l i 0) e))

  -- a list that begins with another is that one and a rest
  pub begins_split : begins s front ≡ true → s ≡ front ++ drop (length front) s
  begins_split e = sym (take-append-drop (length front) s) ∙ ap (λ t. t ++ drop (length front) s) (front_of e)

  -- as the library compares the front
  pub begins_told : {r : Bool} → r ≡ starts_with nat_eq s front → r ≡ begins s front
  begins_told {r} e =
      e ∙ same_from_decides _ (begins s front) (bytes_decides front (take (length front) s))
      (λ t. sym (front_of t), λ q. of_front (sym q))

pub begins_append : (front rest : List ℕ) → begins (front ++ rest) front ≡ true
unfolding begins
begins_append front rest = all_true _ (length front) (λ i h. eq-eqb _ _ (get_or-append front rest 0 i h))
