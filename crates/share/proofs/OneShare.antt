-- Document 01's share built up tray by tray: what is shown of e shares, with e = 1, in terms of the call for one share.
-- Assumes nothing.
use mathlib.Core.Path.{◌≡◌, sym, ap, ◌∙◌, subst}
use mathlib.Core.List.{List, ◌∷◌}
use Prim.Native.Nat.{ℕ, ◌+◌, ◌*◌, ◌<◌}
use native.Mathlib.Nat.{one-mul}
use native.Mathlib.Omega.{arith}
use lib.ListN.{length}
use Rattle.algebra.specs.Coding.{InRange}
use Rattle.algebra.specs.Shape.{Field}
use Rattle.algebra.specs.Plain.{Working}
use Rattle.symbol.specs.Elem.{gf256}
use Rattle.symbol.proofs.Working.{working}
use Rattle.layout.specs.declared.Layout.{Layout}
use Rattle.layout.specs.Layout.{layers, groups, Admissible}
use Rattle.rule.specs.Rule.{tray_part}
use Rattle.share.specs.Share.{share_of}
use Rattle.share.specs.One.{add_refusal, add_buffer}
use Rattle.share.specs.Many.{fed_buffer}
use Rattle.share.specs.Feeds.{count, cleared, Feeds, feed, refused}
use Rattle.share.proofs.Refusals.{one_few, one_add_refusal}
use Rattle.share.proofs.Weights.{one_shares, one_add_buffer}
use Rattle.share.proofs.Feeds.{feeds_shares, twice_fed}

module _ {A : Type 0} {f : Field A} (W : Working f) (l : Layout) (host i : ℕ) (rack start places held : List ℕ) where
  -- a call for one share is a step of a list of feeds
  pub one_feed : Feeds f l 1 host i rack start places held → (g : ℕ) → g < l.size →
      Feeds f l 1 host i rack start (g ∷ places) (add_buffer f l host (i * l.size + g) (tray_part l rack g) held)
  one_feed before g h = subst (Feeds f l 1 host i rack start (g ∷ places)) (one_add_buffer f l W host (i * l.size + g) (tray_part l rack g) held) (feed before g h)

  pub one_refused : (e : ℕ) → Feeds f l e host i rack start places held → (l' : Layout) (host' x : ℕ) (symbols : List ℕ) →
      ¬ (add_refusal f l' host' x symbols held ≡ 0) → Feeds f l e host i rack start places (add_buffer f l' host' x symbols held)
  one_refused e before l' host' x symbols d =
      subst (Feeds f l e host i rack start places) (one_add_buffer f l' W host' x symbols held)
      (refused before l' 1 host' x symbols (λ q. d (sym (one_add_refusal W l' host' x symbols held) ∙ q)))

module _ {A : Type 0} {f : Field A} (W : Working f) (l : Layout) where
  open f.ops use {add}

  -- from a cleared buffer, with each tray fed once, in any order, it holds document 01's share
  pub feeds_share : Admissible f.order l → (host i : ℕ) → host < l.racks → i < l.racks → ¬ (host ≡ i) → (rack : List ℕ) → length rack ≡ l.size * layers l → InRange f.coding rack →
      (start : List ℕ) → length start ≡ groups l → InRange f.coding start → start ≡ cleared f l 1 →
      (places held : List ℕ) → Feeds f l 1 host i rack start places held → ((g : ℕ) → g < l.size → count g places ≡ 1) → held ≡ share_of f l 0 host rack
  feeds_share a host i host_in rack_in differ rack long given start room range clear places held feeds once =
      feeds_shares W l 1 a host i host_in rack_in (omega arith) (one_few l a.cabinet) differ rack long given start (room ∙ sym (one-mul (groups l))) range clear places held feeds once
      ∙ one_shares f l host rack

  module _ (host x : ℕ) (symbols held : List ℕ) where
    both_calls : fed_buffer f l 1 host x symbols (fed_buffer f l 1 host x symbols held) ≡ add_buffer f l host x symbols (add_buffer f l host x symbols held)
    both_calls = ap (fed_buffer f l 1 host x symbols) (one_add_buffer f l W host x symbols held) ∙ one_add_buffer f l W host x symbols (add_buffer f l host x symbols held)

-- among bytes it cancels
pub one_cancels : (l : Layout) (host x : ℕ) (symbols held : List ℕ) → InRange gf256.coding held → add_buffer gf256 l host x symbols (add_buffer gf256 l host x symbols held) ≡ held
one_cancels l host x symbols held range = sym (both_calls working l host x symbols held) ∙ twice_fed l 1 host x symbols held range
