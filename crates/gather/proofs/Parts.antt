-- A part of a room, lent and put back.
-- Assumes nothing.
use mathlib.Core.Path.{◌≡◌, sym, ap, ◌∙◌, subst}
use mathlib.Core.List.{List, ◌++◌}
use Prim.Native.Nat.{ℕ, ◌+◌, ◌-◌, ◌<◌, ◌≤◌}
use native.Mathlib.Omega.{arith}
use lib.ListN.{length, get_or, take, drop, length-append, length-drop, get_or-append}
use lib.Seq.{get_or-append-add, get_or-take, get_or-drop, length-take-le}
use Rattle.lists.specs.Lists.{table}
use Rattle.lists.proofs.Tables.{table_length, table_at}
use Rattle.kernel.specs.Inner.{Run}

-- a part put back where it was lent from
module _ (was last : List ℕ) (to total : ℕ) (inside : to + total ≤ length was) (long : length last ≡ total) where
  front : length (take to was) ≡ to
  front = length-take-le to was (omega arith)

  pub put_long : length (take to was ++ (last ++ drop total (drop to was))) ≡ length was
  put_long =
      let a = length-append (take to was) (last ++ drop total (drop to was)) in
      let b = length-append last (drop total (drop to was)) in
      let c = length-drop total (drop to was) in
      let d = length-drop to was in
      let g = front in
      omega arith

  pub put_low : (i : ℕ) → i < to → get_or (take to was ++ (last ++ drop total (drop to was))) i 0 ≡ get_or was i 0
  put_low i h = get_or-append (take to was) (last ++ drop total (drop to was)) 0 i (let g = front in omega arith)
      ∙ get_or-take to was i 0 h

  past : (k : ℕ) → get_or (take to was ++ (last ++ drop total (drop to was))) (to + k) 0 ≡ get_or (last ++ drop total (drop to was)) k 0
  past k = ap (λ n. get_or (take to was ++ (last ++ drop total (drop to was))) (n + k) 0) (sym front)
      ∙ get_or-append-add (take to was) (last ++ drop total (drop to was)) k 0

  pub put_at : (j : ℕ) → j < total → get_or (take to was ++ (last ++ drop total (drop to was))) (to + j) 0 ≡ get_or last j 0
  put_at j h = past j ∙ get_or-append last (drop total (drop to was)) 0 j (omega arith)

  pub put_high : (i : ℕ) → to + total ≤ i → get_or (take to was ++ (last ++ drop total (drop to was))) i 0 ≡ get_or was i 0
  put_high i h = subst (λ n. get_or (take to was ++ (last ++ drop total (drop to was))) n 0 ≡ get_or was n 0) (back i h) (far (i - to - total))
    where
      back : (i : ℕ) → to + total ≤ i → to + (total + (i - to - total)) ≡ i
      back i b = omega arith

      far : (k : ℕ) → get_or (take to was ++ (last ++ drop total (drop to was))) (to + (total + k)) 0 ≡ get_or was (to + (total + k)) 0
      far k =
          past (total + k)
          ∙ ap (λ n. get_or (last ++ drop total (drop to was)) (n + k) 0) (sym long)
          ∙ get_or-append-add last (drop total (drop to was)) k 0
          ∙ get_or-drop total (drop to was) k 0
          ∙ get_or-drop to was (total + k) 0

-- the symbols of an image copied to a part, as `&mut out[to..to + total]` lends it
module _ (f : ℕ → ℕ) (was : List ℕ) (to total : ℕ) (inside : to + total ≤ length was) where
  back : to + total - to ≡ total
  back = omega arith

  pub lent_long : length (take (to + total - to) (drop to was)) ≡ total
  lent_long = length-take-le (to + total - to) (drop to was) (let d = length-drop to was in omega arith) ∙ back

  pub part_copied : (last : List ℕ) → last ≡ table f (length (take (to + total - to) (drop to was))) →
      Run f was (take to was ++ (last ++ drop (to + total - to) (drop to was))) to total
  part_copied last is =
      subst (λ n. Run f was (take to was ++ (last ++ drop n (drop to was))) to total) (sym back) (record {
        long = put_long was last to total inside long;
        done = λ j h. put_at was last to total inside long j h ∙ ap (λ v. get_or v j 0) whole ∙ table_at f total j h;
        low = put_low was last to total inside long;
        high = put_high was last to total inside long;
      })
    where
      whole : last ≡ table f total
      whole = is ∙ ap (table f) lent_long

      long : length last ≡ total
      long = ap length whole ∙ table_length f total
