-- The documents' register table is what the read gives, computed for all its lines at once.
use mathlib.Core.Path.{refl}
use lib.IntN.{ℤ}
use Rattle.address.specs.Addresses.{trackable, untracked, words, position, byte_of, register_of}
use Rattle.port.specs.Reading.{shown_of, registers, slot_off, look}
use Rattle.port.specs.Table.{Results, TableRead}

module _ (va-rms : ℤ) (ia ib : Results) (min1 min2 min3 min4 min5 min6 max1 max2 max3 max4 max5 max6 : ℤ) where
  pub table_read : TableRead va-rms ia ib min1 min2 min3 min4 min5 min6 max1 max2 max3 max4 max5 max6
  unfolding look register_of byte_of position words trackable untracked slot_off registers shown_of
  table_read = record { all_on = refl; all_off = refl; third_off = refl; no_register = refl }
