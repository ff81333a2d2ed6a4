-- Made by tools/twin.py from crates/store/proofs/store/Answers.antt.
use Rattle.std.proofs.Common.{refl, sym, ◌∙◌}
use Rattle.symbol257.proofs.Working.{working}
use Rattle.store.proofs.Trays.{stores, begins_of}
use Rattle.store.proofs.Answers.{storable, answer_refused, answer_done}
use Rattle.store257.proofs.store.Goals as goal

pub returns-then-ground-ne0 : goal.returns-then-ground-ne0
returns-then-ground-ne0 c = answer_refused working _ _ _ _ c.refusal-ground.ensures c.if-ground-ne0.true

pub put_data-requires : goal.put_data-requires
put_data-requires c = (storable working _ _ _ (sym c.refusal-ground.ensures ∙ c.if-ground-ne0.false)).fits

pub parity-requires : goal.parity-requires
parity-requires c =
    let p = storable working _ _ _ (sym c.refusal-ground.ensures ∙ c.if-ground-ne0.false) in
    record { adm = p.adm.cabinet; long = c.put_data.ensures.long ∙ p.room_long }

pub returns : goal.returns
returns c =
    let y = c.put_data in
    let none = sym c.refusal-ground.ensures ∙ c.if-ground-ne0.false in
    let p = storable working _ _ _ none in
    answer_done working _ _ _ _ none
    (stores working _ p.adm _ p.given_long p.symbols _ _ (y.ensures.long ∙ p.room_long) (begins_of _ _ _ _ refl y.ensures) c.parity.ensures)
