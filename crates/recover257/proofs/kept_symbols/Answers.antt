-- Made by tools/twin.py from crates/recover/proofs/kept_symbols/Answers.antt.
use Rattle.std.proofs.Common.{rules}
use Rattle.recover.proofs.Grounds.{tray_in, kept_false, kept_true}
use Rattle.recover257.proofs.kept_symbols.Goals as goal

pub kept_tray-requires : goal.kept_tray-requires
kept_tray-requires c = search (rules, tray_in)

pub returns-then-not-kept_tray : goal.returns-then-not-kept_tray
returns-then-not-kept_tray c = search (rules, kept_false)

pub returns : goal.returns
returns c = search (rules, kept_true)
