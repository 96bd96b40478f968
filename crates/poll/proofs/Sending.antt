-- Which reply the gathered registers make, and whether it fits.
use Prim.Native.Nat.{ℕ, ◌+◌, ◌*◌, ◌≤◌, ◌<◌}
use mathlib.Core.Path.{◌≡◌, sym, ap, subst, ◌∙◌}
use mathlib.Core.Bool.{true, false}
use mathlib.Core.List.{List, [], ◌∷◌, ◌++◌}
use native.Mathlib.Omega.{arith}
use borrow.Author.Tests.{lt-ltb, le-ltb, le-leb, lt-leb, eq-eqb, ne_eqb}
use lib.IntN.{ℤ}
use lib.ListN.{length, take, length-append}
use lib.Seq.{length-take-le}
use Rattle.std.specs.Prelude.{Option, Some, None}
use Rattle.serial.specs.Places.{put, put_within}
use Rattle.serial.proofs.Places.{put_fits}
use Rattle.card.specs.Cards.{fields_bytes}
use Rattle.packet.specs.Codes.{with_data, acknowledge, too_long}
use Rattle.packet.specs.Packets.{checksum}
use Rattle.packet.specs.Replies.{Reply, no_reply, code, values, with_sum, values_reply, reply_bytes, sends}
use Rattle.poll.specs.declared.Gathered.{Gathered}
use Rattle.poll.specs.declared.Replied.{Replied}
use Rattle.poll.specs.Polls.{replied_in}
use Rattle.poll.specs.Inside.{sending_of}
use Rattle.poll.proofs.Putting.{fields_length}

-- ---- which reply
pub too_many : (g : Gathered) → 84 < g.count → sending_of g ≡ code too_long
unfolding sending_of
too_many g l = simp (lt-ltb 84 g.count l)

pub no_register : (g : Gathered) → g.count ≤ 84 → g.count ≡ 0 → sending_of g ≡ code acknowledge
unfolding sending_of
no_register g l e = simp (le-ltb 84 g.count l, eq-eqb g.count 0 e)

pub some_registers : (g : Gathered) → g.count ≤ 84 → (g.count ≡ 0 → ⊥) → sending_of g ≡ values (take g.count g.values)
unfolding sending_of
some_registers g l e = simp (le-ltb 84 g.count l, ne_eqb g.count 0 e)

-- ---- how long it is
pub values_long : (vs : List ℤ) → length (reply_bytes (values vs)) ≡ 3 * length vs + 3
unfolding reply_bytes values_reply with_sum
values_long vs =
    let head = with_data ∷ (3 * length vs + 3) ∷ [] in
    length-append (head ++ fields_bytes vs) (checksum (head ++ fields_bytes vs) ∷ [])
    ∙ ap (λ (n : ℕ). n + 1) (length-append head (fields_bytes vs) ∙ ap (λ (n : ℕ). 2 + n) (fields_length vs))
    ∙ omega arith

-- ---- whether it fits
module _ (r : Reply) (b : List ℕ) where
  pub too_short : length b < length (reply_bytes r) → ◌≡◌ {A = Option Replied} None (replied_in (length b) r)
  unfolding replied_in
  too_short l = simp (lt-leb (length (reply_bytes r)) (length b) l)

  pub stays : length b < length (reply_bytes r) → b ≡ put_within b 0 (reply_bytes r)
  unfolding put_within
  stays l = simp (lt-leb (0 + length (reply_bytes r)) (length b) (omega arith))

  pub has_room : length (reply_bytes r) ≤ length b → ◌≡◌ {A = Option Replied} (Some (record { length = length (reply_bytes r); sends = sends r })) (replied_in (length b) r)
  unfolding replied_in
  has_room l = simp (le-leb (length (reply_bytes r)) (length b) l)

  pub is_put : length (reply_bytes r) ≤ length b → put b 0 (reply_bytes r) ≡ put_within b 0 (reply_bytes r)
  is_put l = sym (put_fits b (reply_bytes r) 0 (omega arith))

-- no reply: nothing is written
pub none_replied : (b : List ℕ) → ◌≡◌ {A = Option Replied} (Some (record { length = 0; sends = false })) (replied_in (length b) no_reply)
unfolding reply_bytes
none_replied b = has_room no_reply b (omega arith)

pub none_put : (b : List ℕ) → b ≡ put_within b 0 (reply_bytes no_reply)
unfolding reply_bytes put
none_put b = is_put no_reply b (omega arith)

-- what is said of a reply, of the same reply
pub of_reply : (b c : List ℕ) (x : Option Replied) {q r : Reply} → q ≡ r → (x ≡ replied_in (length b) q) × (c ≡ put_within b 0 (reply_bytes q)) → (x ≡ replied_in (length b) r) × (c ≡ put_within b 0 (reply_bytes r))
of_reply b c x e h = subst (λ (r : Reply). (x ≡ replied_in (length b) r) × (c ≡ put_within b 0 (reply_bytes r))) e h

-- the registers, put where there is room
module _ (g : Gathered) (b c : List ℕ) (few : g.count ≤ 84) (some : g.count ≡ 0 → ⊥) (long : length g.values ≡ 84) where
  abbrev taken : List ℤ
  taken = take g.count g.values

  taken_long : length taken ≡ g.count
  taken_long = length-take-le g.count g.values (omega (arith, long))

  reply_long : length (reply_bytes (values taken)) ≡ 3 * g.count + 3
  reply_long = values_long taken ∙ ap (λ (n : ℕ). 3 * n + 3) taken_long

  pub sent : 3 * g.count + 3 ≤ length b → c ≡ put b 0 (values_reply taken) →
      ◌≡◌ {A = Option Replied} (Some (record { length = 3 * g.count + 3; sends = true })) (replied_in (length b) (sending_of g)) × (c ≡ put_within b 0 (reply_bytes (sending_of g)))
  unfolding reply_bytes
  sent l e =
      of_reply b c (Some (record { length = 3 * g.count + 3; sends = true })) (sym (some_registers g few some)) (
        ap (λ (n : ℕ). Some (record { length = n; sends = true })) (sym reply_long) ∙ has_room (values taken) b (omega (arith, reply_long)),
        e ∙ is_put (values taken) b (omega (arith, reply_long)),
      )

  pub not_sent : length b < 3 * g.count + 3 →
      ◌≡◌ {A = Option Replied} None (replied_in (length b) (sending_of g)) × (b ≡ put_within b 0 (reply_bytes (sending_of g)))
  not_sent l =
      of_reply b b None (sym (some_registers g few some))
      (too_short (values taken) b (omega (arith, reply_long)), stays (values taken) b (omega (arith, reply_long)))
