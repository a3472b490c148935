-- `read_property` meets its contract: every offset is within the line.
use Rattle.std.proofs.Common.{rules, ◌≡◌, ◌+◌, Ok, Err, sym, ◌∙◌}
use native.Mathlib.Omega.{arith}
use Rattle.load_text.specs.Bytes.{is_white}
use Rattle.load_text.proofs.Runs.{run_within}
use Rattle.load_value.specs.Values.{scan_of}
use Rattle.load_description.specs.Lines.{property_read}
use Rattle.load_reader.proofs.Properties.{value_fits, told_ok, told_err}
use Rattle.load_reader.proofs.read_property.Goals as goal

pub overflow_add-value-2 : goal.overflow_add-value-2
overflow_add-value-2 c =
    let a = c.args in
    record { fits = omega (arith, run_within is_white a.line.now a.s.value c.requires.1.1 c.white_end.ensures) }

pub told_from-requires : goal.told_from-requires
told_from-requires c =
    let a = c.args in
    value_fits _ a.line.now a.s.value (omega arith) c.tail-bytes.ensures c.scan_value.ensures

pub returns-in_err-sizes : goal.returns-in_err-sizes
unfolding property_read
returns-in_err-sizes c =
    let t = told_err (c.args.from + c.args.s.value) c.scan_value.result c.in_err-sizes.ensures in
    let s : scan_of c.tail-bytes.result.now ≡ Err t.0 = sym c.scan_value.ensures ∙ t.1 in
    let e = t.2 in
    search rules

pub returns : goal.returns
unfolding property_read
returns c =
    let t = told_ok (c.args.from + c.args.s.value) c.scan_value.result c.in_ok-sizes.ensures in
    let s : scan_of c.tail-bytes.result.now ≡ Ok c.in_ok-sizes.sizes = sym c.scan_value.ensures ∙ t in
    search rules
