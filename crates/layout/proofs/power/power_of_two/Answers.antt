use Rattle.std.proofs.Common.{arith, ◌^◌, ◌≤◌}
use native.Mathlib.Nat.{pow-le-pow_right}
use lib.Dec.{lit<}
use Rattle.layout.proofs.power.power_of_two.Goals as goal

pub returns-then-e-gt-HIGHEST : goal.returns-then-e-gt-HIGHEST
returns-then-e-gt-HIGHEST c =
    let h : 13 ≤ c.args.e = omega arith in
    let p : 2 ^ 13 ≤ 2 ^ c.args.e = pow-le-pow_right (lit< tt) h in
    omega arith

pub returns : goal.returns
returns c =
    let h : c.args.e ≤ 12 = omega arith in
    let p : 2 ^ c.args.e ≤ 2 ^ 12 = pow-le-pow_right (lit< tt) h in
    omega arith
