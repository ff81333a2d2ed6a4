-- What the contract of storing settles, over any field: the answer and every byte, whatever the buffer held before.
-- Assumes nothing.
use mathlib.Core.Path.{◌≡◌, refl, sym, ap, ◌∙◌}
use mathlib.Core.List.{List}
use Prim.Native.Nat.{ℕ}
use native.Mathlib.Decide.{ℕ_discrete}
use lib.ListN.{length}
use Rattle.algebra.specs.Shape.{Field}
use Rattle.layout.specs.declared.Layout.{Layout}
use Rattle.store.specs.Store.{store_refusal, StoreAnswer}

module _ {A : Type 0} (f : Field A) (l : Layout) (given : List ℕ) where
  -- two calls over the same data, with buffers of the same length, answer the same and, where done, leave the same bytes
  pub old_bytes_unread : (c c' d d' : List ℕ) (n n' : ℕ) → StoreAnswer f l given c d n → StoreAnswer f l given c' d' n' → length c ≡ length c' →
      (n ≡ n') × (n ≡ 0 → d ≡ d')
  old_bytes_unread c c' d d' n n' p p' e = (same, λ z. let w = p.done z in (p'.done (sym same ∙ z)).only d w.codeword w.begins)
    where
      same : n ≡ n'
      same = p.answer ∙ ap (store_refusal f l given) e ∙ sym p'.answer

  -- the contract settles the answer and every byte
  pub answer_unique : (c d d' : List ℕ) (n n' : ℕ) → StoreAnswer f l given c d n → StoreAnswer f l given c d' n' → (n ≡ n') × (d ≡ d')
  answer_unique c d d' n n' p p' = (same.0, go (ℕ_discrete n 0))
    where
      same : (n ≡ n') × (n ≡ 0 → d ≡ d')
      same = old_bytes_unread c c d d' n n' p p' refl

      go : Dec (n ≡ 0) → d ≡ d'
      go (yes e) = same.1 e
      go (no q) = p.unchanged q ∙ sym (p'.unchanged (λ z. q (same.0 ∙ z)))
