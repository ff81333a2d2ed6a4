-- A list of calls is one for each codeword, so the cutting claim of a single codeword holds for each, and the whole adds up.
-- Assumes nothing.
use mathlib.Core.Path.{◌≡◌, refl, sym, ap, ap₂, ◌∙◌, subst}
use mathlib.Core.List.{List, [], ◌∷◌}
use Prim.Native.Nat.{ℕ, ◌+◌, ◌-◌, ◌*◌, ◌<◌, ◌≤◌}
use native.Mathlib.Nat.{one-mul, mul-zero, mul-add}
use native.Mathlib.Omega.{arith}
use lib.ListN.{length}
use Rattle.algebra.specs.Shape.{Field}
use Rattle.algebra.specs.Plain.{Working}
use Rattle.layout.specs.declared.Layout.{Layout}
use Rattle.layout.specs.Layout.{layers, groups, traffic, AdmissibleWith}
use Rattle.rule.specs.Rule.{Helpers}
use Rattle.rule.specs.Lost.{lost_place, SoundAlike}
use Rattle.repair.specs.Calls.{Calls}
use Rattle.repair.specs.One.{OthersAlike}
use Rattle.repair.proofs.Single.{cutting_one}
use Rattle.batch_parts.specs.Parts.{part}
use Rattle.batch_repair.specs.BatchCalls.{BatchCalls, refused, CutBatch}

module _ {A : Type 0} (f : Field A) (l : Layout) (many x : ℕ) (helpers shares host start : List ℕ) where
  all_groups : groups l ≡ groups l - 0
  all_groups = omega arith

  -- ---- one codeword
  module _ (q : ℕ) (hq : q < many) where
    abbrev Part : ℕ → ℕ → ℕ → List ℕ → Type 0
    Part G crossed to_come spare = Calls f l (x ∷ []) helpers (part many q shares) (part many q host) (part many q start) G crossed to_come (part many q spare)

    sound : (host' : List ℕ) → ((j : ℕ) → j < layers l → OthersAlike f l x j (part many q host) (part many q host')) → (j : ℕ) → j < layers l →
        SoundAlike f l (x ∷ []) j (part many q host) (part many q host')
    unfolding lost_place
    sound host' alike j hj g hg out = alike j hj g hg (out 0 (omega arith))

    pub part_calls : {G crossed to_come : ℕ} {spare : List ℕ} → BatchCalls f l many x helpers shares host start G crossed to_come spare →
        Calls f l (x ∷ []) helpers (part many q shares) (part many q host) (part many q start) G (l.helpers * G) (l.helpers * (groups l - G)) (part many q spare)
    part_calls BatchCalls.none =
        subst (λ k. Part 0 k (l.helpers * (groups l - 0)) start) (sym (mul-zero l.helpers)) (subst (λ m. Part 0 0 m start) (one-mul (traffic l) ∙ ap (λ n. l.helpers * n) all_groups) Calls.none)
    part_calls (BatchCalls.done {G = G} before budget host' spare' g c t alike r) =
        subst (λ k. Part (G + g) k (l.helpers * (groups l - (G + g))) spare') (sym (mul-add l.helpers G g))
        (Calls.done (part_calls before) budget (part many q host') (part many q spare') g (l.helpers * g) (l.helpers * (groups l - (G + g))) (sound host' (alike q hq)) (r.parts q hq))
    part_calls (refused {G = G} before l' many' x' helpers' shares' host' first budget spare' e r) =
        subst (λ y. Part G (l.helpers * G) (l.helpers * (groups l - G)) y) (sym r.2) (part_calls before)

  -- ---- the whole
  record Sofar (G crossed to_come : ℕ) (spare : List ℕ) : Type 0 where
    within : G ≤ groups l
    long : length spare ≡ length start
    crossed_is : crossed ≡ many * (l.helpers * G)
    to_come_is : to_come ≡ many * (l.helpers * (groups l - G))

  counts_add : (a b : ℕ) → many * (l.helpers * a) + many * (l.helpers * b) ≡ many * (l.helpers * (a + b))
  counts_add a b = sym (mul-add many (l.helpers * a) (l.helpers * b)) ∙ ap (λ n. many * n) (sym (mul-add l.helpers a b))

  sofar : {G crossed to_come : ℕ} {spare : List ℕ} → BatchCalls f l many x helpers shares host start G crossed to_come spare → Sofar G crossed to_come spare
  sofar BatchCalls.none = record {
    within = omega arith;
    long = refl;
    crossed_is = sym (ap (λ n. many * n) (mul-zero l.helpers) ∙ mul-zero many);
    to_come_is = ap (λ n. many * (l.helpers * n)) all_groups;
  }
  sofar (BatchCalls.done {G = G} before budget host' spare' g c t alike r) =
      let s = sofar before in
      record {
        within = omega (arith, r.done_is, s.within);
        long = r.long ∙ s.long;
        crossed_is = ap₂ ◌+◌ s.crossed_is r.crossed_is ∙ counts_add G g;
        to_come_is = r.remaining_is;
      }
  sofar (refused {G = G} {crossed = k} {to_come = m} before l' many' x' helpers' shares' host' first budget spare' e r) = subst (λ y. Sofar G k m y) (sym r.2) (sofar before)

-- the cutting claim, for every list of calls
pub cutting_batch : {A : Type 0} {f : Field A} (W : Working f) (l : Layout) → AdmissibleWith f.order 0 l → (many x : ℕ) (helpers shares host : List ℕ) → Helpers l x helpers →
    (start : List ℕ) → {G crossed to_come : ℕ} {spare : List ℕ} → BatchCalls f l many x helpers shares host start G crossed to_come spare →
    CutBatch f l many x helpers shares host start G crossed to_come spare
cutting_batch {f = f} W l adm many x helpers shares host help start {G} {crossed} {to_come} {spare} calls =
    let s = sofar f l many x helpers shares host start calls in
    record {
      within = s.within;
      long = s.long;
      parts = λ q hq.
          cutting_one W l adm x helpers (part many q shares) (part many q host) help (part many q start) (part_calls f l many x helpers shares host start q hq calls);
      crossed_is = s.crossed_is;
      to_come_is = s.to_come_is;
      adds_up =
          ap₂ ◌+◌ s.crossed_is s.to_come_is ∙ counts_add f l many x helpers shares host start G (groups l - G)
          ∙ ap (λ n. many * (l.helpers * n)) (omega (arith, s.within));
    }
