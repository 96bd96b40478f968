-- What a session keeps between two bytes of its input, and what each byte makes of it.
use Rattle.std.specs.Prelude.{ℕ, ◌+◌, ◌*◌, ◌≤◌, ◌≡◌, Bool, true, cond, List, [], ◌∷◌, ◌++◌, eqb, ℤ, pos, length, take}
use Rattle.address.specs.Addresses.{word_addr}
use Rattle.aberzhan.specs.declared.Module.{Module}
use Rattle.aberzhan.specs.Module.{start_of}
use Rattle.console.specs.declared.input.Session.{Session}
use Rattle.console.specs.Texts.{without_return}
use Rattle.console.specs.Turns.{Turn, asked_of, turn_of}
use Rattle.console.specs.Answers.{answer_text}

-- the module, the bytes of a line that has not ended, and the answers that are not yet written
pub record Talk : Type 0 where
  pub state : Module
  pub kept : List ℕ
  pub said : List ℕ

-- an empty line, and a line whose first byte is # (35), has no answer
unfoldable pub silent : List ℕ → Bool
silent [] = true
silent (c ∷ cs) = eqb c 35

-- a line comes to this: a block has room for 8,192 samples a slice
abbrev pub line_turn : Module → List ℕ → Turn
line_turn m line = turn_of 8192 8192 8192 m line

-- a line ends: the module goes on, and the answer is said
unfoldable pub ended : Talk → Talk
ended t =
    let line = without_return t.kept in
    cond (silent line) (record { state = t.state; kept = []; said = t.said })
    (record { state = (line_turn t.state line).after; kept = []; said = t.said ++ answer_text (line_turn t.state line) })

-- more bytes of a line; of a line that is too long to be read, 131,073 bytes tell that it is, a carriage return among them or not
unfoldable pub keeping : Talk → List ℕ → Talk
keeping t bytes = record { state = t.state; kept = take 131073 (t.kept ++ bytes); said = t.said }

-- the bytes of the input one after another: a line feed (10) ends a line
unfoldable pub talked : Talk → List ℕ → Talk
talked t [] = t
talked t (c ∷ cs) = talked (cond (eqb c 10) (ended t) (keeping t (c ∷ []))) cs

-- the whole answers to an input: before the first accepted start the module is that of a refused one; the last line may lack its line feed
unfoldable pub fresh : Module
fresh =
    let off = word_addr (pos 0) in
    (start_of (pos 0) (pos 0) (off ∷ off ∷ off ∷ off ∷ off ∷ off ∷ []) (asked_of []) (pos 0)).after

abbrev pub begin : Talk
begin = record { state = fresh; kept = []; said = [] }

unfoldable pub answers_to : List ℕ → List ℕ
answers_to input = (ended (talked begin input)).said

-- ---- the session of the code
-- with its two buffers it is such a talk
abbrev pub talk_of : Session → List ℕ → List ℕ → Talk
talk_of s line out = record { state = s.«module»; kept = take s.kept line; said = take s.used out }

-- its answers are written out
abbrev pub written : Session → Session
written s = record { «module» = s.«module»; kept = s.kept; used = 0 }

-- the bytes kept are in the line's buffer, and those of the answers in theirs, with room for so many more; and what the buffers hold
pub record Ready (s : Session) (line out : List ℕ) (v s1 s3 : List ℤ) (answers : ℕ) : Type 0 where
  pub kept : s.kept ≤ length line
  pub used : s.used + 1600 * answers ≤ length out
  pub line_room : length line ≡ 131073
  pub v_room : length v ≡ 8192
  pub s1_room : length s1 ≡ 8192
  pub s3_room : length s3 ≡ 8192

-- a read of 256 bytes ends at most so many lines, and no answer is longer than 1,600 bytes
pub record Rooms (chunk line out : List ℕ) (v s1 s3 : List ℤ) : Type 0 where
  pub chunk_room : length chunk ≡ 256
  pub line_room : length line ≡ 131073
  pub out_room : length out ≡ 409600
  pub v_room : length v ≡ 8192
  pub s1_room : length s1 ≡ 8192
  pub s3_room : length s3 ≡ 8192

-- ---- what is promised of it: in whatever reads the input comes, it is one talk, and answers that are written out in between are
-- those that come first
pub record OneTalk : Type 0 where
  pub cut_anywhere : (t : Talk) (xs ys : List ℕ) → talked t (xs ++ ys) ≡ talked (talked t xs) ys
  pub written_first : (t : Talk) (before cs : List ℕ) →
      talked (record { state = t.state; kept = t.kept; said = before ++ t.said }) cs
      ≡ record { state = (talked t cs).state; kept = (talked t cs).kept; said = before ++ (talked t cs).said }
  -- so the answers to a whole input are those of its first part, and then those of the rest from where the first part led
  pub answers_in_parts : (xs ys : List ℕ) →
      let t = talked begin xs in
      answers_to (xs ++ ys) ≡ t.said ++ (ended (talked (record { state = t.state; kept = t.kept; said = [] }) ys)).said
