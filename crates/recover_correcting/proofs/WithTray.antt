-- The list of the erased trays with one more.
-- Assumes nothing.
use mathlib.Core.Path.{◌≡◌, refl, sym, ◌∙◌, subst}
use mathlib.Core.List.{List, [], ◌∷◌}
use Prim.Native.Nat.{ℕ, ◌+◌, ◌-◌, ◌<◌, ◌≤◌}
use native.Mathlib.Decide.{ℕ_discrete}
use native.Mathlib.Omega.{arith}
use lib.ListN.{length, get_or, set, length-append, length-set, get_or-append}
use lib.Seq.{get_or_at, get_or-set_same, get_or-set_other, ext_get_or}
use Rattle.layout.specs.declared.Layout.{Layout}
use Rattle.layout.specs.Layout.{trays, checks}
use Rattle.syndrome.specs.Inner.{Listed}
use Rattle.recover.specs.Inner.{Kept}
use Rattle.recover_correcting.specs.RecoverCorrecting.{with_tray, Surviving}
use Rattle.recover_correcting.specs.Inner.{Begun}

module _ (es : List ℕ) (x : ℕ) where
  pub with_length : length (with_tray es x) ≡ length es + 1
  unfolding with_tray
  with_length = length-append es (x ∷ [])

  pub with_old : (k : ℕ) → k < length es → get_or (with_tray es x) k 0 ≡ get_or es k 0
  unfolding with_tray
  with_old k h = get_or-append es (x ∷ []) 0 k h

  pub with_last : (k : ℕ) → k ≡ length es → get_or (with_tray es x) k 0 ≡ x
  unfolding with_tray
  with_last k e = get_or_at es x [] 0 k (sym e)

  -- a tray is not in the longer list where it is not in the list and is not x
  pub with_kept : (z : ℕ) → Kept es z → ¬ (z ≡ x) → Kept (with_tray es x) z
  with_kept z kept other k h e = go (ℕ_discrete k (length es))
    where
      go : Dec (k ≡ length es) → ⊥
      go (yes q) = other (e ∙ with_last k q)
      go (no q) = let b = with_length in let g : k < length es = omega arith in kept k g (e ∙ with_old k g)

  pub kept_old : (z : ℕ) → Kept (with_tray es x) z → Kept es z
  kept_old z kept k h e = let b = with_length in kept k (omega arith) (e ∙ sym (with_old k h))

  pub kept_other : (z : ℕ) → Kept (with_tray es x) z → ¬ (z ≡ x)
  kept_other z kept e = let b = with_length in kept (length es) (omega arith) (e ∙ sym (with_last (length es) refl))

-- the longer list is one of different trays too
pub with_listed : (l : Layout) (es : List ℕ) (x : ℕ) → Listed l es → Surviving l es x → length es + 1 ≤ checks l → Listed l (with_tray es x)
with_listed l es x listed s few = record {
  places = record {
    apart = λ j k hj hk e. apart j k hj hk e (ℕ_discrete j (length es)) (ℕ_discrete k (length es));
    inside = λ k h. inside
        k h (ℕ_discrete k (length es));
  };
  few = let b = with_length es x in omega arith;
}
  where
    low : (k : ℕ) → k < length (with_tray es x) → ¬ (k ≡ length es) → k < length es
    low k h q = let b = with_length es x in omega arith

    inside : (k : ℕ) → k < length (with_tray es x) → Dec (k ≡ length es) → get_or (with_tray es x) k 0 < trays l
    inside k h (yes q) = subst (λ y. y < trays l) (sym (with_last es x k q)) s.inside
    inside k h (no q) = subst (λ y. y < trays l) (sym (with_old es x k (low k h q))) (listed.places.inside k (low k h q))

    apart : (j k : ℕ) → j < length (with_tray es x) → k < length (with_tray es x) → get_or (with_tray es x) j 0 ≡ get_or (with_tray es x) k 0 →
        Dec (j ≡ length es) → Dec (k ≡ length es) → j ≡ k
    apart j k hj hk e (yes p) (yes q) = p ∙ sym q
    apart j k hj hk e (yes p) (no q) = absurd (s.kept k (low k hk q) (sym (with_last es x j p) ∙ e ∙ with_old es x k (low k hk q)))
    apart j k hj hk e (no p) (yes q) = absurd (s.kept j (low j hj p) (sym (with_last es x k q) ∙ sym e ∙ with_old es x j (low j hj p)))
    apart j k hj hk e (no p) (no q) = listed.places.apart j k (low j hj p) (low k hk q) (sym (with_old es x j (low j hj p)) ∙ e
        ∙ with_old es x k (low k hk q))

-- ---- in a room of one place more
pub put_is : (es list : List ℕ) (x : ℕ) → Begun es list → set list (length list - 1) x ≡ with_tray es x
put_is es list x b = ext_get_or 0 _ _ (length-set list (length list - 1) x ∙ b.long ∙ sym (with_length es x))
    (λ i h. at i (subst (λ n. i < n) (length-set list (length list - 1) x ∙ b.long) h) (ℕ_discrete i (length es)))
  where
    last : length list - 1 ≡ length es
    last = let q = b.long in omega arith

    at : (i : ℕ) → i < length es + 1 → Dec (i ≡ length es) → get_or (set list (length list - 1) x) i 0 ≡ get_or (with_tray es x) i 0
    at i h (yes e) = subst (λ y. get_or (set list (length list - 1) x) y 0 ≡ x) (last ∙ sym e) (get_or-set_same list (length list - 1) x 0
        (let q = b.long in omega arith)) ∙ sym (with_last es x i e)
    at i h (no e) = get_or-set_other list (length list - 1) i x 0 (λ z. e (z ∙ last)) ∙ b.at i (omega arith) ∙ sym
        (with_old es x i (omega arith))

pub put_begun : (es : List ℕ) (x : ℕ) → Begun es (with_tray es x)
put_begun es x = record { long = with_length es x; at = with_old es x }
