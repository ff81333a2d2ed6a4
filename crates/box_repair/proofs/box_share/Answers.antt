use Rattle.std.proofs.Common.{◌≡◌, ℕ, List, sym, ◌∙◌, length, arith}
use Rattle.box_repair.specs.Share.{share_refusal}
use Rattle.box_repair.proofs.Grounds.{sharable}
use Rattle.box_repair.proofs.Answers.{share_done}
use Rattle.box_repair.proofs.box_share.Goals as goal

-- no ground, from the numbers of the racks as they were read
none : (host helper : ℕ) (vs : List ℕ) (room h i e : ℕ) → h ≡ host → i ≡ helper → e ≡ share_refusal h i vs room → e ≡ 0
    → share_refusal host helper vs room ≡ 0
none host helper vs room h i e p q r z = rw (← p, ← q) (sym r ∙ z)

pub rack_sum-requires : goal.rack_sum-requires
rack_sum-requires c =
    let a = c.args in
    let p = sharable a.host.0 a.helper.0 a.values.now (length a.out.now) (search none) in
    (p.values_long, p.symbols)

pub bounds-out-0 : goal.bounds-out-0
bounds-out-0 c =
    let a = c.args in
    let p = sharable a.host.0 a.helper.0 a.values.now (length a.out.now) (search none) in
    omega (arith, p.room_long)

pub returns : goal.returns
returns c = share_done _ _ _ _ _ (search none) c.rack_sum.ensures
