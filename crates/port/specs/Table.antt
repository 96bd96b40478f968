-- Document 01's register table with the words of document 02's A5, line by line: the byte addresses, and what a read gives of a hold.
use Rattle.std.specs.Prelude.{ℕ, true, ◌≡◌, List, [], ◌∷◌, ◌++◌, map, ℤ, pos, replicate}
use Rattle.steps.specs.Answers.{OrRefusal, refused, accepted}
use Rattle.serial.specs.Serials.{no_serial}
use Rattle.address.specs.declared.WordAddr.{WordAddr}
use Rattle.sample.specs.Sums.{no_clips}
use Rattle.interval.specs.declared.Source.{Source}
use Rattle.interval.specs.declared.Registers.{Registers}
use Rattle.address.specs.Slots.{off}
use Rattle.port.specs.declared.Held.{Held}
use Rattle.port.specs.Reading.{look}

-- a source's results, by the ends of its registers' names: PA_POS_CNT and PB_POS_CNT are pos-cnt
pub record Results : Type 0 where
  pub rms : ℤ
  pub peak : ℤ
  pub watt : ℤ
  pub va : ℤ
  pub pf : ℤ
  pub crest : ℤ
  pub pos_cnt : ℕ
  pub neg_cnt : ℕ
  pub pos_remainder : ℕ
  pub neg_remainder : ℕ

abbrev pub source_of : Results → Source
source_of i = record {
  figures = i.rms ∷ i.peak ∷ i.watt ∷ i.va ∷ i.pf ∷ i.crest ∷ [];
  plus = record { count = i.pos_cnt; remainder = i.pos_remainder };
  minus = record { count = i.neg_cnt; remainder = i.neg_remainder };
}

-- for any values of the registers
module _ (va-rms : ℤ) (ia ib : Results) (min1 min2 min3 min4 min5 min6 max1 max2 max3 max4 max5 max6 : ℤ) where
  abbrev pub values : Registers
  values = record {
    vrms = va-rms;
    a = source_of ia;
    b = source_of ib;
    ends = record { low = min1 ∷ min2 ∷ min3 ∷ min4 ∷ min5 ∷ min6 ∷ []; high = max1 ∷ max2 ∷ max3 ∷ max4 ∷ max5 ∷ max6 ∷ [] };
  }

  abbrev pub held : List WordAddr → Held
  held track = record { any = true; closed = record { number = 1; serial = no_serial; clips = no_clips; regs = values }; track = track }

  -- the registers that are no MIN or MAX: VA_RMS; of each source RMS, PEAK, WATT, VA, PF, CREST, POS_CNT and NEG_CNT
  abbrev pub plain_table : List (ℕ × ℤ)
  plain_table =
      (0x81, va-rms)
      ∷ (0xBA, ia.rms)
      ∷ (0xD2, ia.peak)
      ∷ (0xE1, ia.watt)
      ∷ (0xEA, ia.va)
      ∷ (0x12F, ia.pf)
      ∷ (0x1A1, ia.crest)
      ∷ (0x1AD, pos ia.pos_cnt)
      ∷ (0x1B6, pos ia.neg_cnt)
      ∷ (0xBD, ib.rms)
      ∷ (0xD5, ib.peak)
      ∷ (0xE4, ib.watt)
      ∷ (0xED, ib.va)
      ∷ (0x132, ib.pf)
      ∷ (0x1A4, ib.crest)
      ∷ (0x1BF, pos ib.pos_cnt)
      ∷ (0x1C8, pos ib.neg_cnt)
      ∷ []

  -- MIN1 to MIN6 and MAX1 to MAX6
  abbrev pub slot_table : List (ℕ × ℤ)
  slot_table =
      (0x153, min1) ∷ (0x156, min2) ∷ (0x159, min3) ∷ (0x15C, min4) ∷ (0x15F, min5) ∷ (0x162, min6)
      ∷ (0x165, max1) ∷ (0x168, max2) ∷ (0x16B, max3) ∷ (0x16E, max4) ∷ (0x171, max5) ∷ (0x174, max6)
      ∷ []

  abbrev pub read_all : List WordAddr → List (ℕ × ℤ) → List (OrRefusal ℤ)
  read_all track t = map (λ (e : ℕ × ℤ). look (held track) (record { 0 = e.0 })) t

  abbrev pub told_all : List (ℕ × ℤ) → List (OrRefusal ℤ)
  told_all t = map (λ (e : ℕ × ℤ). accepted e.1) t

  -- each byte address gives its register; MIN and MAX of a slot that is off are refused with 17
  pub record TableRead : Type 0 where
    pub all_on : read_all (replicate 6 (record { 0 = 0x2B })) (plain_table ++ slot_table) ≡ told_all (plain_table ++ slot_table)
    pub all_off : read_all (replicate 6 off) (plain_table ++ slot_table) ≡ told_all plain_table ++ replicate 12 (refused 17)
    pub third_off : read_all (replicate 2 (record { 0 = 0x2B }) ++ (off ∷ replicate 3 (record { 0 = 0x2B })))
        ((0x156, min2) ∷ (0x159, min3) ∷ (0x16B, max3) ∷ (0x16E, max4) ∷ [])
        ≡ accepted min2 ∷ refused 17 ∷ refused 17 ∷ accepted max4 ∷ []
    pub no_register : read_all (replicate 6 (record { 0 = 0x2B })) ((0x154, pos 0) ∷ (0x2B, pos 0) ∷ (0, pos 0) ∷ []) ≡ replicate 3 (refused 16)
