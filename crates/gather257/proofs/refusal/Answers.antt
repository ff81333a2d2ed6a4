-- Made by tools/twin.py from crates/gather/proofs/refusal/Answers.antt.
use Rattle.std.proofs.Common.{arith, ◌≡◌, true}
use Rattle.image.specs.Image.{edition2}
use Rattle.layout.specs.Layout.{admissible}
use Rattle.layout.proofs.Facts.{admissible_facts}
use Rattle.lists.proofs.Numbers.{mul_below}
use Rattle.gather.proofs.Whole.{gather_1, gather_2_images, gather_2_room, gather_2_list, gather_0}
use Rattle.gather257.proofs.refusal.Goals as goal

pub returns-then-not-admitted : goal.returns-then-not-admitted
returns-then-not-admitted c = gather_1 edition2 _ _ _ _ (cc)

pub tray_count-n-requires : goal.tray_count-n-requires
tray_count-n-requires c =
    let a = c.args in
    let h : admissible edition2.order a.l ≡ true = cc in
    (admissible_facts edition2.order _ h).cabinet

pub image_length-requires : goal.image_length-requires
image_length-requires c =
    let a = c.args in
    let h : admissible edition2.order a.l ≡ true = cc in
    (admissible_facts edition2.order _ h).cabinet

pub overflow_mul-n : goal.overflow_mul-n
overflow_mul-n c =
    let a = c.args in
    let h : admissible edition2.order a.l ≡ true = cc in
    let k = (admissible_facts edition2.order _ h).cabinet in
    record { fits = mul_below 60 8216 (omega (arith, c.tray_count-n.ensures)) (omega (arith, c.image_length.ensures)) tt }

pub returns-then-images-n : goal.returns-then-images-n
returns-then-images-n c = gather_2_images edition2 _ _ _ _ (cc) (λ e. c.if-images-n.true (cc))

pub layer_count-requires : goal.layer_count-requires
layer_count-requires c =
    let a = c.args in
    let h : admissible edition2.order a.l ≡ true = cc in
    (admissible_facts edition2.order _ h).cabinet

pub returns-then-room-n : goal.returns-then-room-n
returns-then-room-n c = gather_2_room edition2 _ _ _ _ (cc) (cc) (λ e. c.if-room-n.true (cc))

pub returns-then-places-n : goal.returns-then-places-n
returns-then-places-n c = gather_2_list edition2 _ _ _ _ (cc) (cc) (cc) (λ e. c.if-places-n.true (cc))

pub returns : goal.returns
returns c = gather_0 edition2 _ _ _ _ (cc) (cc) (cc) (cc)
