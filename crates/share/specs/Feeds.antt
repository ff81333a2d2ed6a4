-- Lists of feeds into one buffer of e shares, in any order, and what is claimed of every such list. With e = 1 they are feeds into document 01's share.
-- Assumes nothing.
use Rattle.std.specs.Prelude.{Bool, false, not, cond, ◌≡◌, List, [], ◌∷◌, ℕ, zero, suc, ◌+◌, ◌*◌, ◌<◌, eqb}
use Rattle.lists.specs.Lists.{table}
use Rattle.algebra.specs.Shape.{Field}
use Rattle.layout.specs.declared.Layout.{Layout}
use Rattle.layout.specs.Layout.{groups}
use Rattle.rule.specs.Rule.{tray_part}
use Rattle.share.specs.Many.{fed_refusal, fed_buffer}

-- how often n is in a list
unfoldable pub count : ℕ → List ℕ → ℕ
count n [] = 0
count n (x ∷ xs) = cond (eqb n x) (suc (count n xs)) (count n xs)

-- whether a number is odd
unfoldable pub odd : ℕ → Bool
odd zero = false
odd (suc n) = not (odd n)

module _ {A : Type 0} (f : Field A) (l : Layout) (e : ℕ) where
  -- shares in which no tray has been fed
  unfoldable pub cleared : List ℕ
  cleared = table (λ n. f.coding.val f.ops.zero) (e * groups l)

  -- Feeds .. places held: a list of calls over a buffer that was `start` at first and is `held` now, in which the trays at these places of rack i were fed,
  -- the last one first. Each step is what feeding leaves with either E: for e = 1 that is what the call for one share leaves (`one_feed`), and with E = 0 what
  -- the call with e leaves (`many_feed`)
  pub data Feeds (host i : ℕ) (rack start : List ℕ) : List ℕ → List ℕ → Type 0 where
    none : Feeds host i rack start [] start
    feed : {places held : List ℕ} → Feeds host i rack start places held → (g : ℕ) → g < l.size →
        Feeds host i rack start (g ∷ places) (fed_buffer f l e host (i * l.size + g) (tray_part l rack g) held)
    -- a refused call is given anything besides the buffer
    refused : {places held : List ℕ} → Feeds host i rack start places held → (l' : Layout) (e' host' x : ℕ) (symbols : List ℕ) →
        ¬ (fed_refusal f l' e' host' x symbols held ≡ 0) → Feeds host i rack start places (fed_buffer f l' e' host' x symbols held)
