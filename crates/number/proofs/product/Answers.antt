-- `number::product` meets its contract.
use Rattle.number.proofs.Fits.{ranges}
use Rattle.number.proofs.product.Goals as goal

-- `number::product` meets its contract.
pub overflow_cast-result : goal.overflow_cast-result
overflow_cast-result c = search ranges

pub overflow_cast-result-2 : goal.overflow_cast-result-2
overflow_cast-result-2 c = search ranges

pub overflow_mul-result : goal.overflow_mul-result
overflow_mul-result c = search ranges

pub returns : goal.returns
returns c = search ranges
