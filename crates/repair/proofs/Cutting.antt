-- The cutting claim, for every list of repair calls over one spare, and the claim on two calls that do the same group.
-- Assumes nothing.
use mathlib.Core.Path.{◌≡◌, refl, sym, ◌∙◌, ap, ap₂, subst}
use mathlib.Core.List.{List}
use Prim.Native.Nat.{ℕ, ◌+◌, ◌-◌, ◌*◌, ◌%◌, ◌<◌, ◌≤◌}
use native.Mathlib.Decide.{dec_lt}
use native.Mathlib.Nat.{mul-add, mul-zero, zero-add}
use native.Mathlib.Omega.{arith}
use lib.ListN.{length, get_or}
use Rattle.algebra.specs.Coding.{InRange}
use Rattle.algebra.specs.Shape.{Field}
use Rattle.algebra.specs.Plain.{Working}
use Rattle.algebra.specs.Points.{place}
use Rattle.algebra.proofs.Layers.{power_pos}
use Rattle.algebra.proofs.Erasure.{fill_congr, check_congr}
use Rattle.layout.specs.declared.Layout.{Layout}
use Rattle.layout.specs.Layout.{digits, layers, groups, traffic, AdmissibleWith}
use Rattle.codeword.specs.Codeword.{shape_of, Solvable}
use Rattle.layout.proofs.Facts.{size_pos}
use Rattle.codeword.proofs.Usable.{solvable}
use Rattle.codeword.proofs.Buffers.{layers_pos}
use Rattle.rule.specs.Rule.{group_at}
use Rattle.rule.specs.Lost.{first_lost, lost_place, Losses, sent_symbol, with_spare, SoundAlike, Ruled}
use Rattle.rule.proofs.Rule.{group_below}
use Rattle.rule.proofs.Lost.{lost_high, lost_places, rule_one, ruled_same}
use Rattle.rule.proofs.Exact.{rule_whole}
use Rattle.repair.specs.declared.Repaired.TheVariants.{Done}
use Rattle.repair.specs.Repair.{SoundSymbols, report, RepairDone}
use Rattle.repair.specs.Calls.{Calls, none, done, refused, Uncut, Cut, DoneCall, Does}
use Rattle.repair.proofs.Refusals.{repairable, accepted}
use Rattle.repair.proofs.Seen.{piece_symbols_lem}
use Rattle.pieces.proofs.Pieces.{ruled_kept}
use Rattle.repair.proofs.Pieces.{kept_at}

module _ {A : Type 0} {f : Field A} (W : Working f) (l : Layout) (adm : AdmissibleWith f.order 0 l) (lost helpers : List ℕ) (given : Losses l lost helpers)
    (shares host start : List ℕ) where
  abbrev ok : Solvable f l
  ok = solvable W l adm

  -- what the rule fixes for a host rack it fixes for one that is alike in the sound trays
  ruled_host : (host' : List ℕ) (p : ℕ) (spare : List ℕ) → ((j : ℕ) → j < layers l → SoundAlike f l lost j host host') → Ruled f l lost helpers shares host' p spare →
      Ruled f l lost helpers shares host p spare
  unfolding with_spare
  ruled_host host' p spare alike r = record {
    sums = r.sums;
    solution = r.solution;
    holds = λ j hj e m hm.
        check_congr f.ops ok.usable.field.laws (place (shape_of f l)) l.size (lost_place l lost) _ _ m
        (λ g hg. fill_congr f.ops (place (shape_of f l)) l.size (lost_place l lost) (length lost) (lost_places f l ok lost helpers given) _ _ _
        (record { at = λ y hy out. alike j hj y hy out }) g hg)
        ∙ r.holds j hj e m hm;
    symbols = r.symbols;
  }

  -- what is shown by going through the list
  record Sofar (G crossed to_come : ℕ) (spare : List ℕ) : Type 0 where
    within : G ≤ groups l
    long : length spare ≡ length start
    sized : 0 < G → length spare ≡ length lost * layers l
    ruled : (p : ℕ) → p < G → Ruled f l lost helpers shares host p spare
    kept : (n : ℕ) → n < length start → ¬ (group_at l (first_lost l lost) (n % layers l) < G) → get_or spare n 0 ≡ get_or start n 0
    crossed_is : crossed ≡ length lost * (l.helpers * G)
    to_come_is : to_come ≡ length lost * (l.helpers * (groups l - G))

  -- d symbols a group for each of the e weights
  counts_add : (a b : ℕ) → length lost * (l.helpers * a) + length lost * (l.helpers * b) ≡ length lost * (l.helpers * (a + b))
  counts_add a b = sym (mul-add (length lost) (l.helpers * a) (l.helpers * b)) ∙ ap (λ n. length lost * n) (sym (mul-add l.helpers a b))

  more : (G crossed to_come : ℕ) (spare : List ℕ) (budget : ℕ) (host' spare' : List ℕ) (g c t : ℕ) → ((j : ℕ) → j < layers l → SoundAlike f l lost j host host') →
      RepairDone f l lost helpers shares host' G budget spare spare' (report (Done g c t)) → Sofar G crossed to_come spare → Sofar (G + g) (crossed + c) t spare'
  more G crossed to_come spare budget host' spare' g c t alike r s =
      let made = repairable f l lost helpers shares host' (length spare) G budget r.accepted in
      record {
        within = omega (arith, r.done_is, s.within);
        long = r.piece.long ∙ s.long;
        sized = λ _. r.piece.long ∙ made.spare_long;
        ruled = λ p hp. elim (dec_lt p G) [
          | yes k ↦ ruled_kept f l lost helpers shares host p spare spare' (λ i hi j hj e. r.piece.kept i hi j hj (λ w. omega arith)) (s.ruled p k)
          | no k ↦ ruled_host host' p spare' alike (r.piece.done p (omega arith) hp)
        ];
        kept = λ n hn out.
            kept_at (length lost) (layers l) (layers_pos f l ok.usable) n spare spare' (omega (arith, hn, s.long, made.spare_long))
            (λ i hi j hj e. r.piece.kept i hi j hj (λ w. out (subst (λ y. group_at l (first_lost l lost) y < G + g) e w.1)))
            ∙ s.kept n hn (λ w. out (omega arith));
        crossed_is = ap₂ ◌+◌ s.crossed_is r.crossed_is ∙ counts_add G g;
        to_come_is = r.remaining_is;
      }

  sofar : {G crossed to_come : ℕ} {spare : List ℕ} → Calls f l lost helpers shares host start G crossed to_come spare → Sofar G crossed to_come spare
  sofar none = record {
    within = omega arith;
    long = refl;
    sized = λ k. absurd (omega arith);
    ruled = λ p k. absurd (omega arith);
    kept = λ n hn out. refl;
    crossed_is = sym (ap (λ n. length lost * n) (mul-zero l.helpers) ∙ mul-zero (length lost));
    to_come_is = ap (λ n. length lost * (l.helpers * n)) (omega arith);
  }
  sofar (done {G = G} {crossed = k} {to_come = m} {spare = spare} before budget host' spare' g c t alike r) = more G k m spare budget host' spare' g c t alike r (sofar before)
  sofar (refused {G = G} {crossed = k} {to_come = m} {spare = spare} before l' lost' helpers' shares' host' first budget spare' e r) = subst (λ y. Sofar G k m y)
      (sym r.2) (sofar before)

  -- a spare of a done call has e·L symbols
  pub done_long : {G crossed to_come : ℕ} {spare : List ℕ} → Calls f l lost helpers shares host start G crossed to_come spare → 0 < G → length spare ≡ length lost * layers l
  done_long calls = (sofar calls).sized

  some_group : 0 < groups l
  some_group = rw ok.groups_are (power_pos (digits l) (l.racks - 1) ok.usable.fits.some_digits)

  -- one uncut call over a spare of e·L symbols, with the rule's own outcome
  uncut_call : length shares ≡ length lost * traffic l → length host ≡ l.size * layers l → InRange f.coding shares → SoundSymbols f l lost host →
      (other : List ℕ) → length other ≡ length lost * layers l → Uncut f l lost helpers shares host other
  uncut_call es eh range sound other eo =
      let one = rule_one f l ok lost helpers given shares host in
      record {
        written = one.outcome;
        done = groups l;
        crossed = length lost * (l.helpers * groups l);
        to_come = length lost * (l.helpers * (groups l - groups l));
        answer = record {
          accepted = accepted f l lost helpers shares host _ 0 (groups l) (lost_high f l ok lost helpers given)
              (record { adm = adm; shares_long = es; host_long = eh; spare_long = eo; losses = given; first_in = omega arith })
              (piece_symbols_lem f l lost shares host 0 (groups l) helpers given (size_pos l adm.admissible.cabinet) (omega arith) es range sound);
          done_is = omega arith;
          crossed_is = refl;
          remaining_is = ap (λ n. length lost * (l.helpers * (groups l - n))) (sym (zero-add (groups l)));
          piece = record {
            long = one.long ∙ sym eo;
            done = λ p hp k. one.ruled p (omega arith);
            kept = λ i hi j hj out. absurd (out (omega arith, omega (arith, group_below f l ok (first_lost l lost) helpers given.help j hj)));
          };
        };
      }

  -- the cutting claim, for every list of calls
  pub cutting : {G crossed to_come : ℕ} {spare : List ℕ} → Calls f l lost helpers shares host start G crossed to_come spare → Cut f l lost helpers shares host start G crossed to_come spare
  cutting {G} {crossed} {to_come} {spare} calls =
      let s = sofar calls in
      record {
        within = s.within;
        long = s.long;
        ruled = s.ruled;
        uncut = λ other one i hi j hj k.
            let r = one.answer in
            ruled_same f l ok lost helpers given (group_at l (first_lost l lost) j) (omega (arith, s.within)) shares shares host host spare one.written (s.ruled _ k)
            (r.piece.done (group_at l (first_lost l lost) j) (omega arith) (omega (arith, r.done_is, s.within, k))) (λ m q hm hq. refl) (λ q hq e g hg d. refl) i hi j hj refl;
        uncut_is = uncut_call;
        kept = s.kept;
        whole = λ e c of.
            rule_whole f l ok lost helpers given shares host c of spare (s.sized (omega (arith, e, some_group))) (λ p hp. s.ruled p (omega (arith, e, hp)));
        crossed_is = s.crossed_is;
        to_come_is = s.to_come_is;
        adds_up = ap₂ ◌+◌ s.crossed_is s.to_come_is ∙ counts_add G (groups l - G) ∙ ap (λ n. length lost * (l.helpers * n)) (omega (arith, s.within));
      }

-- Any two done calls, whatever their first groups, over the same layout, lost trays and helpers, that both do group p and are alike in its e·d share symbols and
-- in the symbols of the host rack's sound trays at its layers, write the same symbols at its layers.
pub same_group : {A : Type 0} {f : Field A} (W : Working f) (l : Layout) (lost helpers : List ℕ) (one two : DoneCall f l lost helpers) (p : ℕ) → Does one p → Does two p →
    ((m k : ℕ) → m < length lost → k < l.helpers → sent_symbol f l (length lost) one.shares m p k ≡ sent_symbol f l (length lost) two.shares m p k) →
    ((j : ℕ) → j < layers l → group_at l (first_lost l lost) j ≡ p → SoundAlike f l lost j one.host two.host) →
    (i : ℕ) → i < length lost → (j : ℕ) → j < layers l → group_at l (first_lost l lost) j ≡ p → get_or one.new (i * layers l + j) 0 ≡ get_or two.new (i * layers l + j) 0
same_group {f = f} W l lost helpers one two p d e alike sound i hi j hj k =
    let r = one.answer in
    let made = repairable f l lost helpers one.shares one.host (length one.old) one.first one.budget r.accepted in
    ruled_same f l (solvable W l made.adm) lost helpers made.losses p (omega (arith, r.done_is, made.first_in)) one.shares two.shares one.host
    two.host one.new two.new
    (r.piece.done p d.0 d.1) (two.answer.piece.done p e.0 e.1) alike sound i hi j hj k
