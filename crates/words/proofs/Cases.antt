-- Each case of the table has the answer that the definitions give, by computation. This is a result.
use Rattle.common.specs.Kit.{◌≡◌, refl, map}
use Rattle.words.specs.Word.{row, decode_of, encode_of}
use Rattle.words.specs.Order.{order_from}
use Rattle.words.specs.Cases.{found, table}

pub cases : map found table ≡ table
unfolding row decode_of encode_of order_from table
cases = refl
