-- Each field is read after those before it.
use Rattle.std.proofs.Common.{◌≡◌, Ok, vec_items, ◌∙◌, rules}
use Rattle.scripts.specs.Readings.{Blames}
use Rattle.scripts.specs.Words.{words_of}
use Rattle.scripts.specs.Fields.{kind_of, base_of, function_of, shape_of, operands_of}
use Rattle.scripts.proofs.Exits.{then_said, fails_first, fails_next, reads_break}
use Rattle.scripts.proofs.fields.read_fields.Goals as goal

pub returns-in_err-base : goal.returns-in_err-base
returns-in_err-base c =
    let ws = words_of c.args.text.now in
    let kind : kind_of ws ≡ Ok (c.in_ok-kind.kind) = search rules in
    let wrong : Blames (base_of c.args.algebra ws) c.in_err-base.field-0.0 = search rules in
    reads_break _ _ c.from_residual-in_err-base.result _ c.from_residual-in_err-base.ensures.1 (fails_next _ _ _ _ c.in_ok-check_fields.ensures (fails_next _ _ _ _ c.in_ok-slip.ensures (fails_next _ _ _ _ kind (fails_first _ _ _ wrong))))

pub returns-in_err-function : goal.returns-in_err-function
returns-in_err-function c =
    let ws = words_of c.args.text.now in
    let kind : kind_of ws ≡ Ok (c.in_ok-kind.kind) = search rules in
    let base : base_of c.args.algebra ws ≡ Ok (c.in_ok-base.base) = search rules in
    let wrong : Blames (function_of ws) c.in_err-function.field-0.0 = search rules in
    reads_break _ _ c.from_residual-in_err-function.result _ c.from_residual-in_err-function.ensures.1 (fails_next _ _ _ _ c.in_ok-check_fields.ensures (fails_next _ _ _ _ c.in_ok-slip.ensures (fails_next _ _ _ _ kind (fails_next _ _ _ _ base (fails_first _ _ _ wrong)))))

pub returns-in_err-shape : goal.returns-in_err-shape
returns-in_err-shape c =
    let ws = words_of c.args.text.now in
    let kind : kind_of ws ≡ Ok (c.in_ok-kind.kind) = search rules in
    let base : base_of c.args.algebra ws ≡ Ok (c.in_ok-base.base) = search rules in
    let function : function_of ws ≡ Ok (c.in_ok-function.function) = search rules in
    let wrong : Blames (shape_of ws) c.in_err-shape.field-0.0 = search rules in
    reads_break _ _ c.from_residual-in_err-shape.result _ c.from_residual-in_err-shape.ensures.1 (fails_next _ _ _ _ c.in_ok-check_fields.ensures (fails_next _ _ _ _ c.in_ok-slip.ensures (fails_next _ _ _ _ kind (fails_next _ _ _ _ base (fails_next _ _ _ _ function (fails_first _ _ _ wrong))))))

pub returns-in_err-operands : goal.returns-in_err-operands
returns-in_err-operands c =
    let ws = words_of c.args.text.now in
    let kind : kind_of ws ≡ Ok (c.in_ok-kind.kind) = search rules in
    let base : base_of c.args.algebra ws ≡ Ok (c.in_ok-base.base) = search rules in
    let function : function_of ws ≡ Ok (c.in_ok-function.function) = search rules in
    let shape : shape_of ws ≡ Ok (vec_items c.in_ok-shape.shape) = search rules in
    let wrong : Blames (operands_of ws) c.in_err-operands.field-0.0 = search rules in
    reads_break _ _ c.from_residual-in_err-operands.result _ c.from_residual-in_err-operands.ensures.1 (fails_next _ _ _ _ c.in_ok-check_fields.ensures (fails_next _ _ _ _ c.in_ok-slip.ensures (fails_next _ _ _ _ kind (fails_next _ _ _ _ base (fails_next _ _ _ _ function (fails_next _ _ _ _ shape (fails_first _ _ _ wrong)))))))

pub returns-in_err-codes : goal.returns-in_err-codes
returns-in_err-codes c =
    let ws = words_of c.args.text.now in
    let kind : kind_of ws ≡ Ok (c.in_ok-kind.kind) = search rules in
    let base : base_of c.args.algebra ws ≡ Ok (c.in_ok-base.base) = search rules in
    let function : function_of ws ≡ Ok (c.in_ok-function.function) = search rules in
    let shape : shape_of ws ≡ Ok (vec_items c.in_ok-shape.shape) = search rules in
    let operands : operands_of ws ≡ Ok (vec_items c.in_ok-operands.operands) = search rules in
    reads_break _ _ c.from_residual-in_err-codes.result _ c.from_residual-in_err-codes.ensures.1 (fails_next _ _ _ _ c.in_ok-check_fields.ensures (fails_next _ _ _ _ c.in_ok-slip.ensures (fails_next _ _ _ _ kind (fails_next _ _ _ _ base (fails_next _ _ _ _ function (fails_next _ _ _ _ shape (fails_next _ _ _ _ operands (fails_first _ _ _ c.in_err-codes.ensures))))))))

pub returns : goal.returns
returns c =
    let ws = words_of c.args.text.now in
    let kind : kind_of ws ≡ Ok (c.in_ok-kind.kind) = search rules in
    let base : base_of c.args.algebra ws ≡ Ok (c.in_ok-base.base) = search rules in
    let function : function_of ws ≡ Ok (c.in_ok-function.function) = search rules in
    let shape : shape_of ws ≡ Ok (vec_items c.in_ok-shape.shape) = search rules in
    let operands : operands_of ws ≡ Ok (vec_items c.in_ok-operands.operands) = search rules in
    then_said _ _ _ c.in_ok-check_fields.ensures ∙ then_said _ _ _ c.in_ok-slip.ensures ∙ then_said _ _ _ kind ∙ then_said _ _ _ base ∙ then_said _ _ _ function ∙ then_said _ _ _ shape ∙ then_said _ _ _ operands ∙ then_said _ _ _ c.in_ok-codes.ensures
