use Rattle.std.proofs.Common.{arith, ◌≡◌, true}
use Rattle.image.specs.Image.{edition1}
use Rattle.layout.specs.Layout.{admissible}
use Rattle.layout.proofs.Facts.{admissible_facts, bounds}
use Rattle.lists.proofs.Numbers.{mul_below}
use Rattle.gather.proofs.Racks.{rack_1, rack_2_images, rack_2_room, rack_3_rack, rack_3_lost, rack_4, rack_looked}
use Rattle.gather.proofs.rack.refusal.Goals as goal

pub returns-then-not-admitted : goal.returns-then-not-admitted
returns-then-not-admitted c = rack_1 edition1 _ _ _ _ _ _ (cc)

pub image_length-requires : goal.image_length-requires
image_length-requires c =
    let a = c.args in
    let h : admissible edition1.order a.l ≡ true = cc in
    (admissible_facts edition1.order _ h).cabinet

pub overflow_mul-u : goal.overflow_mul-u
overflow_mul-u c =
    let a = c.args in
    let h : admissible edition1.order a.l ≡ true = cc in
    let k = (admissible_facts edition1.order _ h).cabinet in
    let b = bounds _ k in
    record { fits = mul_below 60 8216 (omega (arith, b.size_high)) (omega (arith, c.image_length.ensures)) tt }

pub returns-then-images-u : goal.returns-then-images-u
returns-then-images-u c = rack_2_images edition1 _ _ _ _ _ _ (cc) (λ e. c.if-images-u.true (cc))

pub layer_count-requires : goal.layer_count-requires
layer_count-requires c =
    let a = c.args in
    let h : admissible edition1.order a.l ≡ true = cc in
    (admissible_facts edition1.order _ h).cabinet

pub returns-then-room-u : goal.returns-then-room-u
returns-then-room-u c = rack_2_room edition1 _ _ _ _ _ _ (cc) (cc) (λ e. c.if-room-u.true (cc))

pub returns-then-b-rack : goal.returns-then-b-rack
returns-then-b-rack c = rack_3_rack edition1 _ _ _ _ _ _ (cc) (cc) (cc) c.if-b-rack.true

pub of_rack-requires : goal.of_rack-requires
of_rack-requires c =
    let a = c.args in
    let h : admissible edition1.order a.l ≡ true = cc in
    (admissible_facts edition1.order _ h).cabinet.size_low

pub returns-then-not-of_rack : goal.returns-then-not-of_rack
returns-then-not-of_rack c = rack_3_lost edition1 _ _ _ _ _ _ (cc) (cc) (cc) c.if-b-rack.false (cc)

pub returns-then-not-strictly_rising : goal.returns-then-not-strictly_rising
returns-then-not-strictly_rising c = rack_4 edition1 _ _ _ _ _ _ (cc) (cc) (cc) c.if-b-rack.false (cc) (cc)

pub lowest_ground-requires : goal.lowest_ground-requires
lowest_ground-requires c =
    let a = c.args in
    let h : admissible edition1.order a.l ≡ true = cc in
    record { adm = (admissible_facts edition1.order _ h).cabinet; rack_in = c.if-b-rack.false; images_long = cc }

pub returns : goal.returns
returns c = rack_looked edition1 _ _ _ _ _ _ (cc) (cc) (cc) c.if-b-rack.false (cc) (cc) _ c.lowest_ground.ensures
