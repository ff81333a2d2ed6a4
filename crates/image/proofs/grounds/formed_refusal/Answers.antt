use Rattle.image.proofs.ReadGrounds.{formed_10, formed_11, formed_0}
use Rattle.image.proofs.grounds.formed_refusal.Goals as goal

pub returns-then-byte_at-ne-LIVE : goal.returns-then-byte_at-ne-LIVE
returns-then-byte_at-ne-LIVE c = search formed_10

pub returns-then-not-is_expected : goal.returns-then-not-is_expected
returns-then-not-is_expected c = search formed_11

pub returns : goal.returns
returns c = search formed_0
