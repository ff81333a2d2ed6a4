-- THE THEOREMS: everything on the page (specs/Claims.antt) holds for every layout, over both fields. Each line names what proves it.
-- Assumes nothing.
use mathlib.Core.Path.{◌≡◌, refl, sym, ap, ◌∙◌}
use mathlib.Core.Bool.{true}
use mathlib.Core.List.{List, [], ◌∷◌}
use Prim.Native.Nat.{ℕ, ◌*◌, ◌<◌}
use native.Mathlib.Omega.{arith}
use lib.ListN.{length}
use Rattle.algebra.specs.Shape.{Field}
use Rattle.algebra.specs.Plain.{Working}
use Rattle.algebra.specs.Layers.{group_of}
use Rattle.algebra.proofs.Points.{powers_apart}
use Rattle.algebra.specs.Below.{below}
use Rattle.symbol.specs.Elem.{gf256}
use Rattle.symbol.proofs.Working.{working as working-256}
use Rattle.symbol257.specs.Elem.{gf257}
use Rattle.symbol257.proofs.Working.{working as working-257}
use Rattle.layout.specs.declared.Layout.{Layout}
use Rattle.layout.specs.Layout.{digits, admissible, admissible_with, Admissible, AdmissibleWith}
use Rattle.layout.proofs.Facts.{admissible_facts, with_facts}
use Rattle.layout.proofs.Numbers.{product_high, whole_low, parity_low, digits_small, last_check, group_below}
use Rattle.codeword.specs.Codeword.{shape_of}
use Rattle.codeword.proofs.Usable.{usable, solvable}
use Rattle.codeword.proofs.Buffers.{points_distinct}
use Rattle.codeword.proofs.Unique.{tested_unique}
use Rattle.store.proofs.Trays.{store_exists}
use Rattle.store.proofs.Settled.{old_bytes_unread, answer_unique as stored-unique}
use Rattle.recover.proofs.Settled.{never_looks, answer_unique as recovered-unique, eight_exactly, codeword_returns}
use Rattle.rule.specs.Rule.{Helpers}
use Rattle.rule.proofs.Instances.{rule_one_at}
use Rattle.rule.proofs.Solutions.{solution_one}
use Rattle.rule.proofs.Single.{one_loss, one_lost, lost_one}
use Rattle.share.proofs.Weights.{weight_is}
use Rattle.share.proofs.Feeds.{feeds_call, twice_fed, twice_cancels}
use Rattle.repair.specs.declared.Repaired.{Repaired}
use Rattle.repair.specs.Repair.{RepairAnswer}
use Rattle.repair.proofs.Unique.{repaired_unique}
use Rattle.repair.proofs.Cutting.{cutting}
use Rattle.repair.proofs.Exact.{of_sent, sent_by_calls, exact_by_calls}
use Rattle.repair.proofs.Single.{cutting_one, exact_one_by_calls}
use Rattle.reading.proofs.ReadsTheCodeword.{reads_the_codeword, empty_run}
use Rattle.correcting.proofs.Unique.{correcting_unique}
use Rattle.correcting.proofs.Calls.{exact_by_calls as correcting-by-calls}
use Rattle.card.proofs.Instances.{one_card_at}
use Rattle.cards.proofs.Claims.{printed_unique, carded_unique}
use Rattle.cards.proofs.Mixed.{as_pieces}
use Rattle.least.proofs.Instances.{truly_least_at}
use Rattle.least.proofs.Calls.{share_message}
use Rattle.image.specs.declared.Edition.{Edition}
use Rattle.image.specs.Image.{edition1, edition2}
use Rattle.image.specs.Inner.{Proper}
use Rattle.image.proofs.Editions.{proper1, proper2}
use Rattle.image.proofs.LiveOnly.{live_only, demonstration_named, demonstration_refused}
use Rattle.image.proofs.AcceptedExactly.{accepted_exactly}
use Rattle.image.proofs.HeaderRules.{formed_exactly}
use Rattle.image.proofs.Both.{other_refused_both}
use Rattle.margin.proofs.Range.{margin_range, margin_ends}
use Rattle.scrub.proofs.Walks.{walked}
use Rattle.scrub.proofs.Broken.{bad_broken, broken_bad}
use Rattle.bench_book.proofs.Claim.{worked_examples}
use Rattle.claims.specs.Looks.{Looks}
use Rattle.claims.specs.Claims.{Demand1, Demand2, EachRepair, Demand3, Document01, Requests, OneTray, Correcting, Cards, Least, Claims, Claims256, Claims257}
use Rattle.claims.proofs.Refused.{measure_is, test_grounds, share_refused, add_refused, many_refused, add_many_refused, repair_grounds, write_refused}
use Rattle.claims.proofs.Refused.{read_refused, margin_is, scrub_refused, scrub_reports, reset_is, part_refused, repair_other, many_other, add_many_other}
use Rattle.claims.proofs.Refused.{part_other, print_other, card_other, by_card_other, correcting_other}
use Rattle.claims.proofs.Survivors.{erased_only, none_erased, sound_exactly, first_bad, stops}
use Rattle.claims.proofs.Spares.{own_groups, reports, nothing, no_ground, same_group_of}
use Rattle.claims.proofs.Words.{group_agrees, margin_live, of_store, of_spare, done_only, steps}
use Rattle.claims.proofs.Points.{every_symbol, rack_sums, nought_written, nought_read}
use Rattle.claims.proofs.Fed.{shares_are, feeds_are, share_one, share_add_one, fed_once, fed_often, cancels}
use Rattle.claims.proofs.Corrected.{correcting_grounds, fourteen_exactly, printed_grounds, tested_exactly, by_card_exactly, as_the_repair}
use Rattle.claims.proofs.Fields.{adds_256, multiplies_256, low_powers_256, eighth_256, exactly_256, adds_257, multiplies_257, exactly_257}
use Rattle.claims.proofs.Looks.{piece_looks, others_groups, card_looks, correcting_looks, walk_looks, test_looks, share_room, print_room, none_shared, none_fed, none_lost}
use Rattle.claims.proofs.TraysToRecords.{trays_to_records}
use Rattle.claims.proofs.Batches.{batch_storing, batch_repairs}
use Rattle.claims.proofs.Handed.{handed, handed_256}

module _ {A : Type 0} {f : Field A} (W : Working f) (ed : Edition) (fit : Proper ed) (l : Layout) where
  -- an admissible layout, as facts
  fit_so : admissible f.order l ≡ true → Admissible f.order l
  fit_so = admissible_facts f.order l

  fit_with : (e : ℕ) → admissible_with f.order e l ≡ true → AdmissibleWith f.order e l
  fit_with e = with_facts f.order e l

  demand1 : Demand1 f ed l
  demand1 = record {
    measure = measure_is f.order l;
    test = test_grounds f l;
    store = λ given c d n p. (p.answer, λ h. p.unchanged (λ e. h (sym p.answer ∙ e)));
    recover = λ es c d n p. (p.refused, p.unchanged);
    share = share_refused f l;
    share_add = add_refused f l;
    share_many = many_refused f l;
    share_add_many = add_many_refused f l;
    repair = repair_grounds f l;
    write = write_refused ed l;
    read = read_refused ed l;
    margin = margin_is f.order l;
    scrub = scrub_refused f l;
    reset = reset_is f.order l;
    read_part = part_refused f.order l;
    test_one = tested_unique f l;
    store_one = stored-unique f l;
    recover_one = recovered-unique f l;
    repair_one = repaired_unique W l;
    live_only = live_only ed fit;
    named = demonstration_named ed l;
    demonstration_refused = demonstration_refused ed fit;
  }

  demand2 : Demand2 f l
  demand2 = record {
    stored = λ given c d n p e. let w = p.done e in (w.codeword, w.begins, w.only);
    storable = λ a. store_exists W l (fit_so a);
    stored_anew = old_bytes_unread f l;
    recovered = codeword_returns f l;
    refused_exactly = eight_exactly f l;
    erased_only = erased_only f l;
    old_unread = never_looks f l;
    none_erased = none_erased W l;
    sound_exactly = λ c r p z. sound_exactly f l c z r p;
    first_bad = λ c r p z. first_bad f l c z r p;
    stops = stops f l;
  }

  each : (lost helpers shares host : List ℕ) (first budget : ℕ) (old new : List ℕ) (r : Repaired) →
      RepairAnswer f l lost helpers shares host first budget old new r → EachRepair f l lost helpers shares host first budget old new r
  each lost helpers shares host first budget old new r p = record {
    reports = reports W l lost helpers shares host first budget old new r p;
    own_groups = own_groups W l lost helpers shares host first budget old new r p;
    nothing = nothing W l lost helpers shares host first budget old new r p;
    no_ground = no_ground f l lost helpers shares host (length old) first budget;
    lost_unread = λ host' new' long alike r' q.
        piece_looks W l lost helpers shares shares host host' first budget (others_groups l lost shares host host' first _ long alike) old new new' r r' p q;
  }

  demand3 : AdmissibleWith f.order 0 l → Demand3 f l
  demand3 a = record {
    each = each;
    exact = exact_by_calls W l a;
    cutting = λ lost helpers given shares host start G crossed to_come spare. cutting W l a lost helpers given shares host start;
    exact_cut = λ lost helpers shares host c p start G crossed to_come spare calls e.
        let cut = cutting W l a lost helpers p.setting.losses shares host start calls in (
          cut.whole e c (of_sent f l (usable W l a.admissible) lost helpers shares host c (sent_by_calls W l a lost helpers shares host c p)),
          cut.crossed_is ∙ ap (λ g. length lost * (l.helpers * g)) e,
        );
    same_group = same_group_of W l;
    fixed = rule_one_at W l a;
    one_solution = λ x helpers help p inside m sent one two s t. solution_one f l (solvable W l a) x helpers help p inside m sent one two s t;
  }

  document01 : Document01 f ed l
  document01 = record {
    field = W.field;
    every_symbol = every_symbol W;
    room = λ t. let a = fit_so t in (
      omega (arith, product_high l a.cabinet, W.room),
      whole_low l a.cabinet,
      parity_low l a.cabinet,
      digits_small l a.cabinet,
      last_check l a.cabinet,
    );
    points_differ = λ t. points_distinct f l (usable W l (fit_so t));
    powers_differ = λ t. powers_apart (shape_of f l) (usable W l (fit_so t)).fits;
    rack_sums = λ t. rack_sums f l (usable W l (fit_so t));
    groups_agree = λ t h j k hh hj hk.
        let a = fit_so t in (group_below l a.cabinet h j hh hj, group_agrees (digits l) (usable W l a).fits.some_digits l.racks h j k hh hj hk);
    accepted_exactly = accepted_exactly ed fit;
    formed_exactly = formed_exactly ed fit;
    margin_range = margin_range f.order l;
    margin_ends = margin_ends f.order l;
    margin_live = margin_live l;
  }

  requests : Requests f ed l
  requests = record {
    weights = weight_is f l W.field;
    shares_are = shares_are W l;
    nought_written = nought_written ed l;
    nought_read = nought_read ed fit l;
    looks = steps f l;
    walked = λ c w r. walked f l c W.field;
    reports = scrub_reports f l;
    bad_layer_lem = λ c j. (
      λ e. let b = bad_broken f l c j e in (b.at, b.check_in, b.broken),
      λ w. broken_bad f l c j W.field.coded (record { at = w.0; check_in = w.1; broken = w.2 }),
    );
    part_of = λ codeword spare lost done tray first end z. (
      of_store f.order l codeword spare lost done tray first end z,
      λ e. (of_spare f.order l codeword spare lost done tray first end z e, done_only f.order l codeword spare lost done tray first end z e),
    );
    empty_run = λ codeword spare lost done tray first. (empty_run f.order l codeword spare lost done tray first).1;
    part_right = λ lost helpers shares host start G crossed to_come c codeword spare done chosen of calls far store.
        reads_the_codeword W l (record { 0 = lost }) c codeword spare done
        (record {
          helpers = helpers;
          shares = shares;
          host = host;
          start = start;
          G = G;
          crossed = crossed;
          to_come = to_come;
          chosen = chosen;
          of = of;
          calls =
              calls;
          far_enough = far;
          store = store;
        });
    feeds_are = feeds_are W l;
    fed_once = fed_once W l;
    fed_once_many = feeds_call W l;
    fed_often = fed_often W l;
  }

  one_tray : OneTray f l
  one_tray = record {
    exact = λ t. exact_one_by_calls W l (fit_with 0 t);
    cutting = λ t x helpers given shares host start G crossed to_come spare. cutting_one W l (fit_with 0 t) x helpers shares host given start;
    rule = λ t x helpers shares host p spare.
        let u = usable W l (fit_so t) in (one_lost f l u x helpers shares host p spare, lost_one f l u x helpers shares host p spare);
    share = share_one W l;
    share_add = share_add_one W l;
  }

  wrong_share : Correcting f l
  wrong_share = record {
    grounds = correcting_grounds W l;
    one = correcting_unique W l;
    exact = λ t. correcting-by-calls W l (fit_with 1 t);
    fourteen_exactly = fourteen_exactly W l;
    pieces_other = λ d. (repair_other f l d, many_other f l d, add_many_other f l d, part_other f l d);
    cards_other = λ d x helpers group. (print_other f l d x helpers group, card_other f l d x helpers group, by_card_other f l d x helpers group);
    whole_other = correcting_other f l;
  }

  cards : (x : ℕ) (helpers : List ℕ) (group : ℕ) → Cards f l x helpers group
  cards x helpers group = record {
    one_card = λ t help inside. one_card_at W l (fit_with 0 t) x helpers help group inside;
    printed = printed_grounds f l x helpers group;
    print_one = printed_unique W l x helpers group;
    accepted_exactly = tested_exactly f l x helpers group;
    repair_exactly = by_card_exactly f l x helpers group;
    repair_one = carded_unique W l x helpers group;
    as_the_repair = as_the_repair W l x helpers group;
    cutting = λ t help shares host start G crossed to_come spare calls.
        cutting W l (fit_with 0 t) (x ∷ []) helpers (one_loss f l (solvable W l (fit_with 0 t)) x helpers help) shares host start (as_pieces f l x helpers shares host start calls);
  }

  least : AdmissibleWith f.order 0 l → (x : ℕ) (helpers : List ℕ) → Helpers l x helpers → Least f l x helpers
  least a x helpers help = record { truly_least = truly_least_at W l a x helpers help; messages_are = share_message f l (solvable W l a) x helpers help }

  looks : Looks f l
  looks = record {
    test = test_looks f l;
    piece = λ lost helpers shares shares' host host' first budget alike old new new' r r'. piece_looks W l lost helpers shares shares' host host' first budget alike old new new' r r';
    card = λ x helpers card shares shares' host host' group alike old new new' r r'. card_looks W l x helpers card shares shares' host host' group alike old new new' r r';
    correcting = correcting_looks W l;
    walk = walk_looks f l;
    share_room = share_room f l;
    print_room = print_room W l;
    none_shared = none_shared f l;
    none_fed = none_fed f l;
    none_lost = none_lost f l;
  }

  -- over any field with what the code needs, and an edition of its images
  pub claims_at : (ed.order ≡ f.order) × (ed.size ≡ f.coding.size) → Claims f ed l
  claims_at same = record {
    images = same;
    first = demand1;
    second = demand2;
    third = λ t. demand3 (fit_with 0 t);
    own = document01;
    requests = requests;
    one_tray =
        one_tray;
    wrong_share = wrong_share;
    cards = cards;
    least = λ t. least (fit_with 0 t);
    looks = looks;
    handed = handed W l;
    trays_to_records = trays_to_records W ed (record { order_is = same.0; size_is = same.1; proper = fit }) l looks;
    batch_storing = batch_storing W l;
    batch_repairs = batch_repairs W l;
  }

pub claims_256 : (l : Layout) → Claims256 l
unfolding below
claims_256 l = record {
  claims = claims_at working-256 edition1 proper1 l (refl, refl);
  adds = adds_256;
  multiplies = multiplies_256;
  low_powers = low_powers_256;
  eighth_power = eighth_256;
  root = (refl, refl, refl);
  admissible_exactly = exactly_256 l;
  fed_twice = twice_fed l;
  fed_twice_many = twice_cancels l;
  cancels = cancels l;
  image_handed = handed_256 l;
  other_edition = other_refused_both.0;
  bench_book_lem = worked_examples;
}

pub claims_257 : (l : Layout) → Claims257 l
unfolding below
claims_257 l = record {
  claims = claims_at working-257 edition2 proper2 l (refl, refl);
  adds = adds_257;
  multiplies = multiplies_257;
  root = (refl, refl, refl);
  admissible_exactly = exactly_257 l;
  other_edition = other_refused_both.1;
}
