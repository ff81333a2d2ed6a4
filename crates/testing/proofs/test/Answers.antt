use Rattle.std.proofs.Common.{◌≡◌, ◌*◌, sym, ap₂, ◌∙◌, length, arith}
use Rattle.field.proofs.Numbers.{codes_length}
use Rattle.layout.specs.Layout.{trays, layers}
use Rattle.codeword.proofs.Answers.{refused_1, refused_2, refused_3, not_refused, tested}
use Rattle.testing.proofs.Symbols.{admitted_is, cabinet_of, whole_false, whole_true, whole_range}
use Rattle.testing.proofs.test.Goals as goal

pub returns-then-not-admitted : goal.returns-then-not-admitted
returns-then-not-admitted g c =
    let o = g.met.N.FieldNumber.order_is in
    (refused_1 _ _ _ (admitted_is g.N.FieldNumber.field c.args.l o c.ORDER.ensures c.admitted.ensures c.if-not-admitted.true), omega arith)

pub layer_count-total-requires : goal.layer_count-total-requires
layer_count-total-requires g c =
    let f = g.N.FieldNumber.field in
    let o = g.met.N.FieldNumber.order_is in
    cabinet_of f _ (admitted_is f c.args.l o c.ORDER.ensures c.admitted.ensures c.if-not-admitted.false)

pub tray_count-requires : goal.tray_count-requires
tray_count-requires g c =
    let f = g.N.FieldNumber.field in
    let o = g.met.N.FieldNumber.order_is in
    cabinet_of f _ (admitted_is f c.args.l o c.ORDER.ensures c.admitted.ensures c.if-not-admitted.false)

pub returns-then-c-tray_count : goal.returns-then-c-tray_count
returns-then-c-tray_count g c =
    let w = g.met.N.FieldNumber in
    let same = codes_length w.numbers c.args.c.now in
    let product = ap₂ ◌*◌ c.tray_count.ensures c.layer_count-total.ensures in (
      refused_2 _ _ _ (admitted_is g.N.FieldNumber.field c.args.l w.order_is c.ORDER.ensures c.admitted.ensures c.if-not-admitted.false)
          (λ e. c.if-c-tray_count.true (sym same ∙ e ∙ sym product)),
      omega arith,
    )

pub returns-then-not-are_symbols : goal.returns-then-not-are_symbols
returns-then-not-are_symbols g c =
    let w = g.met.N.FieldNumber in
    let same = codes_length w.numbers c.args.c.now in (
      refused_3 _ _ _ (admitted_is g.N.FieldNumber.field c.args.l w.order_is c.ORDER.ensures c.admitted.ensures c.if-not-admitted.false)
          (same ∙ c.if-c-tray_count.false ∙ ap₂ ◌*◌ c.tray_count.ensures c.layer_count-total.ensures)
          (whole_false _ _ _ _ same c.are_symbols.ensures c.if-not-are_symbols.true),
      omega arith,
    )

pub scan-requires : goal.scan-requires
scan-requires g c =
    let f = g.N.FieldNumber.field in
    let w = g.met.N.FieldNumber in
    let same = codes_length w.numbers c.args.c.now in
    record {
      adm = cabinet_of f _ (admitted_is f c.args.l w.order_is c.ORDER.ensures c.admitted.ensures c.if-not-admitted.false);
      total_is = c.layer_count-total.ensures;
      long = same ∙ c.if-c-tray_count.false ∙ ap₂ ◌*◌ c.tray_count.ensures c.layer_count-total.ensures;
    }

pub returns : goal.returns
returns g c =
    let n = g.N.FieldNumber in
    let w = g.met.N.FieldNumber in
    let a = c.args in
    let codes = n.codes a.c.now in
    let same = codes_length w.numbers a.c.now in
    let adm = admitted_is n.field a.l w.order_is c.ORDER.ensures c.admitted.ensures c.if-not-admitted.false in
    let t = whole_true n.field codes _ _ same c.are_symbols.ensures c.if-not-are_symbols.false in
    let product = ap₂ ◌*◌ c.tray_count.ensures c.layer_count-total.ensures in
    let long : length codes ≡ trays a.l * layers a.l = same ∙ c.if-c-tray_count.false ∙ product in
    tested n.field _ _ c.scan.result (not_refused _ _ _ adm long t) long (whole_range n.field _ t) c.scan.ensures
