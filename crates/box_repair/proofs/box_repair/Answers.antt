use Rattle.std.proofs.Common.{◌≡◌, ℕ, List, ◌%◌, sym, ap, ◌∙◌, subst, length, arith}
use Rattle.box_repair.specs.Repair.{repair_refusal}
use Rattle.box_repair.specs.Inner.{Sound, others_of}
use Rattle.box_repair.proofs.Grounds.{repairable}
use Rattle.box_repair.proofs.Answers.{repair_done}
use Rattle.box_repair.proofs.box_repair.Goals as goal

-- no ground, from the number of the tray as it was read
none : (lost : ℕ) (hs shares rack : List ℕ) (room x e : ℕ) → x ≡ lost → e ≡ repair_refusal x hs shares rack room → e ≡ 0
    → repair_refusal lost hs shares rack room ≡ 0
none lost hs shares rack room x e p r z = rw (← p) (sym r ∙ z)

pub others_sum-sum-requires : goal.others_sum-sum-requires
others_sum-sum-requires c =
    let a = c.args in
    let p = repairable a.lost.0 a.helpers.now a.shares.now a.rack.now (length a.spare.now) (search none) in
    subst (λ x. Sound (x % 4) a.rack.now) (sym c.number-x.ensures) p.sound

pub bounds-shares-0 : goal.bounds-shares-0
bounds-shares-0 c =
    let a = c.args in
    let p = repairable a.lost.0 a.helpers.now a.shares.now a.rack.now (length a.spare.now) (search none) in
    omega (arith, p.shares_long)

pub bounds-spare-0 : goal.bounds-spare-0
bounds-spare-0 c =
    let a = c.args in
    let p = repairable a.lost.0 a.helpers.now a.shares.now a.rack.now (length a.spare.now) (search none) in
    omega (arith, p.room_long)

pub returns : goal.returns
returns c =
    repair_done _ _ _ _ _ _ _ (search none)
    (c.others_sum-sum.ensures ∙ ap (λ x. (others_of (x % 4) c.args.rack.now).val) c.number-x.ensures) c.add.ensures
