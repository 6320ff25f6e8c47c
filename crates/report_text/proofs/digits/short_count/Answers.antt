use Rattle.std.proofs.Common.{sym, arith}
use Rattle.report_text.proofs.Decimals.{length_one, length_two, length_three, length_four}
use Rattle.report_text.proofs.digits.short_count.Goals as goal

pub returns-then-number-lt10 : goal.returns-then-number-lt10
returns-then-number-lt10 c = sym (length_one c.args.number (omega arith))

pub returns-then-number-lt100 : goal.returns-then-number-lt100
returns-then-number-lt100 c = sym (length_two c.args.number (omega arith) (omega arith))

pub returns-then-number-lt1000 : goal.returns-then-number-lt1000
returns-then-number-lt1000 c = sym (length_three c.args.number (omega arith) (omega arith))

pub returns : goal.returns
returns c = sym (length_four c.args.number (omega arith) (omega arith))
