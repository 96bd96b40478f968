-- `number::square` meets its contract.
use Rattle.number.proofs.Fits.{ranges, square_nonneg, square_fits}
use Rattle.number.proofs.Signed.{abs_mul}
use Rattle.number.proofs.square.Goals as goal

-- `number::square` meets its contract.
pub overflow_cast-result : goal.overflow_cast-result
overflow_cast-result c = search ranges

pub overflow_cast-result-2 : goal.overflow_cast-result-2
overflow_cast-result-2 c = search ranges

pub overflow_mul-result : goal.overflow_mul-result
overflow_mul-result c = search ranges

pub overflow_cast-result-3 : goal.overflow_cast-result-3
overflow_cast-result-3 c = search (ranges, square_nonneg, square_fits)

pub returns : goal.returns
returns c = search (ranges, abs_mul)
