-- What a piece of a repair is told, and places of the spare.
-- Assumes nothing.
use mathlib.Core.Path.{◌≡◌, refl, sym, ap, subst, ◌∙◌}
use mathlib.Core.List.{List}
use Prim.Native.Nat.{ℕ, ◌+◌, ◌*◌, ◌/◌, ◌%◌, ◌<◌, ◌≤◌}
use native.Mathlib.Nat.{mul_assoc, mul_comm, mod-lt, div-add-mod', div-lt_iff_lt-mul}
use native.Mathlib.Omega.{arith}
use lib.ListN.{length, get_or}
use Rattle.lists.proofs.Numbers.{mul_below}
use Rattle.layout.specs.declared.Layout.{Layout}
use Rattle.layout.specs.Layout.{tray_limit, layer_limit, groups}
use Rattle.layout.proofs.Facts.{bounds}
use Rattle.pieces.specs.Inner.{Piecing}
use Rattle.repair.specs.Inner.{Repairable}

-- a place of a spare of e trays of L symbols, by tray and layer
pub kept_at : (e L : ℕ) → 0 < L → (n : ℕ) (old new : List ℕ) → n < e * L →
    ((i : ℕ) → i < e → (j : ℕ) → j < L → j ≡ n % L → get_or new (i * L + j) 0 ≡ get_or old (i * L + j) 0) → get_or new n 0 ≡ get_or old n 0
kept_at e L pos n old new hn same =
    subst (λ y. get_or new y 0 ≡ get_or old y 0) (div-add-mod' n L) (same (n / L) ((div-lt_iff_lt-mul pos).1 hn) (n % L) (mod-lt n pos) refl)

-- e shares of each of d helpers
pub swap : (e d n : ℕ) → e * (d * n) ≡ d * (e * n)
swap e d n = sym (mul_assoc e d n) ∙ ap (λ y. y * n) (mul_comm e d) ∙ mul_assoc d e n

-- what the piece is told
pub piecing_of : (N : ℕ) (l : Layout) (lost helpers shares host : List ℕ) (first count : ℕ) (spare : List ℕ) →
    Repairable N l lost helpers (length shares) (length host) (length spare) first →
    first + count ≤ groups l → Piecing N l lost helpers shares host first count spare
piecing_of N l lost helpers shares host first count spare g h = record {
  adm = g.adm;
  losses = g.losses;
  shares_long = g.shares_long ∙ swap (length lost) l.helpers (groups l);
  host_long = g.host_long;
  spare_long = g.spare_long;
  within = h;
}

-- what an accepted call reports is small
pub crossing_in : {N : ℕ} {l : Layout} {lost helpers : List ℕ} {shares host spare first : ℕ} → Repairable N l lost helpers shares host spare first → (n : ℕ) → n ≤ layer_limit →
    length lost * (l.helpers * n) < 18446744073709551616
crossing_in {l = l} r n h =
    let b = bounds l r.adm.admissible.cabinet in
    let one : l.helpers * n < 245761 = mul_below tray_limit layer_limit (omega (arith, r.adm.admissible.cabinet.helpers_high)) h tt in
    mul_below 30 245760 (omega (arith, r.losses.few)) (omega arith) tt
