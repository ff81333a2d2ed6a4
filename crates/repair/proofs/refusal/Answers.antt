use Rattle.std.proofs.Common.{arith, ap, ◌≡◌, ◌*◌, length, true, false, eqb}
use Rattle.symbol.specs.Elem.{gf256}
use borrow.Author.Tests.{eqb-true, eqb-false}
use Rattle.layout.specs.Layout.{layers, traffic, admissible_with}
use Rattle.layout.proofs.Facts.{bounds, with_facts}
use Rattle.repair.proofs.Refusals.{traffic_pos, ground_1, ground_2, ground_numbers, ground_counts}
use Rattle.repair.proofs.refusal.Goals as goal

pub returns-then-not-admitted_with : goal.returns-then-not-admitted_with
returns-then-not-admitted_with c = let a = c.args in ground_1 gf256 a.l a.lost.now a.helpers.now a.shares.now a.host.now a.spare a.first a.budget (cc)

pub layer_count-total-requires : goal.layer_count-total-requires
layer_count-total-requires c =
    let a = c.args in
    let h : admissible_with gf256.order 0 a.l ≡ true = cc in
    let k = (with_facts gf256.order 0 _ h).admissible.cabinet in
    k

pub group_count-requires : goal.group_count-requires
group_count-requires c =
    let a = c.args in
    let h : admissible_with gf256.order 0 a.l ≡ true = cc in
    let k = (with_facts gf256.order 0 _ h).admissible.cabinet in
    k

pub is_times-requires : goal.is_times-requires
is_times-requires c =
    let a = c.args in
    let h : admissible_with gf256.order 0 a.l ≡ true = cc in
    let k = (with_facts gf256.order 0 _ h).admissible.cabinet in
    omega (arith, ap (λ n. a.l.helpers * n) c.group_count.ensures, traffic_pos _ k)

pub returns-then-not-is_times : goal.returns-then-not-is_times
returns-then-not-is_times c =
    let a = c.args in
    let h : admissible_with gf256.order 0 a.l ≡ true = cc in
    let s : eqb (length a.shares.now) (length a.lost.now * traffic a.l) ≡ false = cc in
    ground_2 gf256 a.l a.lost.now a.helpers.now a.shares.now a.host.now a.spare a.first a.budget h (λ p q r. eqb-false _ _ s p)

pub returns-then-host-u : goal.returns-then-host-u
returns-then-host-u c =
    let a = c.args in
    let h : admissible_with gf256.order 0 a.l ≡ true = cc in
    ground_2 gf256 a.l a.lost.now a.helpers.now a.shares.now a.host.now a.spare a.first a.budget h (λ p q r. c.if-host-u.true (cc))

pub is_times-requires-2 : goal.is_times-requires-2
is_times-requires-2 c =
    let a = c.args in
    let h : admissible_with gf256.order 0 a.l ≡ true = cc in
    let k = (with_facts gf256.order 0 _ h).admissible.cabinet in
    let b = bounds _ k in
    omega (arith, c.layer_count-total.ensures)

pub returns-then-not-is_times-2 : goal.returns-then-not-is_times-2
returns-then-not-is_times-2 c =
    let a = c.args in
    let h : admissible_with gf256.order 0 a.l ≡ true = cc in
    let v : eqb a.spare (length a.lost.now * layers a.l) ≡ false = cc in
    ground_2 gf256 a.l a.lost.now a.helpers.now a.shares.now a.host.now a.spare a.first a.budget h (λ p q r. eqb-false _ _ v r)

pub number_refusal-ground-requires : goal.number_refusal-ground-requires
number_refusal-ground-requires c =
    let a = c.args in
    let h : admissible_with gf256.order 0 a.l ≡ true = cc in
    let k = (with_facts gf256.order 0 _ h).admissible.cabinet in
    let s : eqb (length a.shares.now) (length a.lost.now * traffic a.l) ≡ true = cc in
    let t : length a.host.now ≡ a.l.size * layers a.l = cc in
    (k, eqb-true _ _ s, t)

pub returns-then-ground-ne0 : goal.returns-then-ground-ne0
returns-then-ground-ne0 c =
    let a = c.args in
    let h : admissible_with gf256.order 0 a.l ≡ true = cc in
    let s : eqb (length a.shares.now) (length a.lost.now * traffic a.l) ≡ true = cc in
    let t : length a.host.now ≡ a.l.size * layers a.l = cc in
    let v : eqb a.spare (length a.lost.now * layers a.l) ≡ true = cc in
    ground_numbers gf256 a.l a.lost.now a.helpers.now a.shares.now a.host.now a.spare a.first a.budget h (eqb-true _ _ s) t (eqb-true _ _ v) _ c.number_refusal-ground.ensures c.if-ground-ne0.true

pub count_refusal-requires : goal.count_refusal-requires
count_refusal-requires c =
    let a = c.args in
    let h : admissible_with gf256.order 0 a.l ≡ true = cc in
    let k = (with_facts gf256.order 0 _ h).admissible.cabinet in
    k

pub returns : goal.returns
returns c =
    let a = c.args in
    let h : admissible_with gf256.order 0 a.l ≡ true = cc in
    let s : eqb (length a.shares.now) (length a.lost.now * traffic a.l) ≡ true = cc in
    let t : length a.host.now ≡ a.l.size * layers a.l = cc in
    let v : eqb a.spare (length a.lost.now * layers a.l) ≡ true = cc in
    ground_counts gf256 a.l a.lost.now a.helpers.now a.shares.now a.host.now a.spare a.first a.budget h (eqb-true _ _ s) t (eqb-true _ _ v) _ _ c.number_refusal-ground.ensures c.if-ground-ne0.false
    c.count_refusal.ensures
