use Rattle.std.proofs.Common.{◌≡◌, ◌+◌, ◌-◌, ◌*◌, sym, ◌∙◌, arith, get_or, rules}
use Rattle.text_bytes.proofs.Bytes.{badly_begun, not_digit, too_large, digit_read, number_read}
use Rattle.text_bytes.proofs.read_number.Goals as goal

pub returns-then-not-well_begun : goal.returns-then-not-well_begun
returns-then-not-well_begun c = badly_begun _ (sym c.well_begun.ensures ∙ c.if-not-well_begun.true)

pub returns-then-not-is_between : goal.returns-then-not-is_between
returns-then-not-is_between c = not_digit _ _ _ c.loop-byte.invariant (search rules) (sym c.is_between.ensures ∙ c.if-not-is_between.true)

pub returns-in_err-checked_mul : goal.returns-in_err-checked_mul
returns-in_err-checked_mul c = rw c.from_residual.ensures (too_large _ _ _ c.loop-byte.invariant (search rules) (omega (arith, c.in_err-checked_mul.ensures)))

pub returns-in_err-value : goal.returns-in_err-value
returns-in_err-value c = rw c.from_residual-in_err-value.ensures (too_large _ _ _ c.loop-byte.invariant (search rules) (omega (arith, c.in_err-value.ensures, c.in_ok-checked_mul.ensures, c.from.ensures)))

pub loop-byte-preserved : goal.loop-byte-preserved
loop-byte-preserved c =
    let grown : c.in_ok-value.value ≡ c.loop-byte.value * 10 + (get_or c.args.text.now c.loop-byte.byte-index 0 - 48) = omega (arith, c.in_ok-value.ensures, c.in_ok-checked_mul.ensures, c.from.ensures) in
    digit_read _ _ _ c.loop-byte.invariant (search rules) (sym c.is_between.ensures ∙ c.if-not-is_between.false) _ grown (omega (arith, c.in_ok-value.ensures))

pub returns : goal.returns
returns c = number_read _ _ _ c.loop-byte.invariant (search rules) (sym c.well_begun.ensures ∙ c.if-not-well_begun.false)
