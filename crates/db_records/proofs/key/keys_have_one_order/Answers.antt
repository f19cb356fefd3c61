use Rattle.db_records.specs.KeyLaws.{keys_total}
use Rattle.db_records.proofs.Order.{keys_equal}
use Rattle.db_records.proofs.key.keys_have_one_order.Goals as goal

pub returns : goal.returns
returns c = (keys_total, keys_equal)
