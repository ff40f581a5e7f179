-- A session, line by line, where P is what a line does.
use Rattle.std.proofs.Common.{◌≡◌, ◌≢◌, inl, inr, ℕ, List, [], ◌∷◌, ◌++◌, ◌∙◌, Option, Some, Result, Ok, Err}
use Rattle.std.proofs.Common.{refl, ap, subst, sym, take, append_assoc}
use Rattle.std.specs.Io.KnownBytes.{Appends, Consumes, IsAtEnd}
use Rattle.debug_texts.specs.Answers.{farewell}
use Rattle.debug_texts.specs.Commands.{Said, command_of}
use Rattle.debug_texts.specs.Commands.Said.{Quit}
use Rattle.debug_texts.specs.Lines.{IsLine, ReadsLine}
use Rattle.debug_texts.proofs.CommandLemmas.{command_kept}
use Rattle.debug_texts.proofs.Pieces.{appends_more, appends_none, keeps_all}
use Rattle.debug_texts.proofs.LineLemmas.{consumes_none}
use Rattle.model.specs.Machines.{Recorded}
use Rattle.model.specs.Observers.{output_of}
use Rattle.debugger.specs.declared.errors.DebugError.{DebugError}
use Rattle.debugger.specs.declared.errors.DebugError.TheVariants.{Read, Write, Memory}
use Rattle.debugger.specs.Sessions.{CarriesBy, Debugged, Doing, Ends, GoesOn, ReadsBy, ReadsEnd, SessionBy, Stops}
use Rattle.debugger.specs.Sessions.{Written}

-- an answer before the others
stops_more : (P : Doing) (e : DebugError) (s : Debugged) (w : Recorded) (mid after out out1 now : Option (List ℕ))
    (a answers : List ℕ) → Appends out out1 a → Stops P e s w mid after out1 now answers
    → Stops P e s w mid after out now (a ++ answers)
stops_more P Read s w mid after out out1 now a answers h k = record {
  world = k.world;
  part = k.part;
  is_line = k.is_line;
  read = k.read;
  written = appends_more out out1 now a answers h k.written;
}
stops_more P Memory s w mid after out out1 now a answers h k = record {
  world = k.world;
  line = k.line;
  go_on = k.go_on;
  read = k.read;
  written = appends_more out out1 now a answers h k.written;
}
stops_more P Write s w mid after out out1 now a answers h (inl k) = inl (record {
  line = k.line;
  go_on = k.go_on;
  read = k.read;
  end = k.end;
  answer = k.answer;
  done = k.done;
  world = k.world;
  answered = k.answered;
  written = appends_more out out1 k.answered a answers h k.written;
  part = k.part;
})
stops_more P Write s w mid after out out1 now a answers h (inr k) = inr (record {
  world = k.world;
  read = k.read;
  answered = k.answered;
  written = appends_more out out1 k.answered a answers h k.written;
  part = k.part;
})

ends_more : {A : Type 0} (P : Doing) (result : Result A DebugError) (s : Debugged) (w : Recorded)
    (mid after out out1 now : Option (List ℕ)) (a answers : List ℕ) → Appends out out1 a
    → Ends P result s w mid after out1 now answers → Ends P result s w mid after out now (a ++ answers)
ends_more P (Ok x) s w mid after out out1 now a answers h k =
    let Out : List ℕ → Type 0 = λ bs. Appends out now bs in
    record {
      world = k.world;
      read = k.read;
      written = subst Out (sym (append_assoc a answers (farewell (output_of w))))
          (appends_more out out1 now a (answers ++ farewell (output_of w)) h k.written);
    }
ends_more P (Err e) s w mid after out out1 now a answers h k = stops_more P e s w mid after out out1 now a answers h k

-- a line before a session
pub session_more : {A : Type 0} (P : Doing) (result : Result A DebugError) (s m : Debugged) (w : Recorded)
    (before next after out out1 now : Option (List ℕ)) (line answer : List ℕ) → GoesOn line → ReadsLine before next line
    → P s line m answer → Appends out out1 answer → SessionBy P result m w next after out1 now
    → SessionBy P result s w before after out now
session_more P result s m w before next after out out1 now line answer goes read does written k = record {
  lines = line ∷ k.lines;
  end = k.end;
  answers = answer ++ k.answers;
  read_to = k.read_to;
  go_on = (goes, k.go_on);
  done = (m, answer, k.answers, does, k.done, refl);
  read = (next, read, k.read);
  ends = ends_more P result k.end w k.read_to after out out1 now answer k.answers written k.ends;
}

-- a session of no line
pub session_ends : {A : Type 0} (P : Doing) (result : Result A DebugError) (s : Debugged) (w : Recorded)
    (before after out now : Option (List ℕ)) → Ends P result s w before after out now []
    → SessionBy P result s w before after out now
session_ends P result s w before after out now h = record {
  lines = [];
  end = s;
  answers = [];
  read_to = before;
  go_on = tt;
  done = (refl, refl);
  read = consumes_none before;
  ends = h;
}

-- ---- a line that was read

-- a line, of which these bytes were kept
abbrev pub Line : Option (List ℕ) → Option (List ℕ) → List ℕ → Type 0
Line before next kept = (text : List ℕ) × IsLine text × (kept ≡ take 201 text) × ReadsLine before next text

says : (text kept : List ℕ) (command : Option Said) → kept ≡ take 201 text → command ≡ command_of kept
    → command ≡ command_of text
says text kept command k c = c ∙ ap command_of k ∙ command_kept text

goes_on : (text kept : List ℕ) (command : Option Said) → kept ≡ take 201 text → command ≡ command_of kept
    → command ≢ Some Quit → command_of text ≢ Some Quit
goes_on text kept command k c other quit = other (says text kept command k c ∙ quit)

-- what is true of each line that these bytes begin
abbrev pub OfKept : List ℕ → (List ℕ → Type 0) → Type 0
OfKept kept Q = (text : List ℕ) → kept ≡ take 201 text → Q text

-- it was carried out, and the session goes on
pub answered : {A : Type 0} (P : Doing) (result : Result A DebugError) (s m : Debugged) (w : Recorded)
    (before next after out out1 now : Option (List ℕ)) (kept : List ℕ) → Line before next kept
    → command_of kept ≢ Some Quit
    → OfKept kept (λ text. (answer : List ℕ) × P s text m answer × Appends out out1 answer)
    → SessionBy P result m w next after out1 now → SessionBy P result s w before after out now
answered P result s m w before next after out out1 now kept (text, is, k, read) other carried rest =
    let (answer, does, written) = carried text k in
    session_more P result s m w before next after out out1 now text answer
    (is, goes_on text kept (command_of kept) k refl other) read does written rest

-- what a session says in the end was written, or a beginning of it
closes : {A : Type 0} (P : Doing) (result : Result A DebugError) (s : Debugged) (before after out now : Option (List ℕ))
    → ReadsEnd before after → Written result out now (farewell (output_of s.world))
    → SessionBy P result s s.world before after out now
closes P (Ok a) s before after out now end h =
    session_ends P (Ok a) s s.world before after out now (record { world = refl; read = end; written = h })
closes P (Err Read) s before after out now end h = absurd h
closes P (Err Memory) s before after out now end h = absurd h
closes P (Err Write) s before after out now end h = session_ends P (Err Write) s s.world before after out now
    (inr (record { world = refl; read = end; answered = out; written = appends_none out; part = h }))

-- it ends the session
pub quits : {A : Type 0} (P : Doing) (result : Result A DebugError) (s : Debugged)
    (before next out now : Option (List ℕ)) (kept : List ℕ) → Line before next kept → command_of kept ≡ Some Quit
    → Written result out now (farewell (output_of s.world)) → SessionBy P result s s.world before next out now
quits P result s before next out now kept (text, is, k, read) quit h =
    closes P result s before next out now
    (inl (text, is, sym (says text kept (command_of kept) k refl) ∙ quit, read)) h

-- there is none more
pub at_end : {A : Type 0} (P : Doing) (result : Result A DebugError) (s : Debugged)
    (before next out now : Option (List ℕ)) → Consumes before next [] × IsAtEnd next
    → Written result out now (farewell (output_of s.world)) → SessionBy P result s s.world before next out now
at_end P result s before next out now end h = closes P result s before next out now (inr end) h

-- a read failed
pub read_fails : {A : Type 0} (P : Doing) (s : Debugged) (before next out : Option (List ℕ))
    → ((text : List ℕ) × IsLine text × Consumes before next text)
    → SessionBy {A = A} P (Err Read) s s.world before next out out
read_fails {A = A} P s before next out (text, is, read) =
    session_ends {A = A} P (Err Read) s s.world before next out out
    (record { world = refl; part = text; is_line = is; read = read; written = appends_none out })

-- it failed
pub line_fails : {A : Type 0} (P : Doing) (e : DebugError) (s m : Debugged) (before next out now : Option (List ℕ))
    (kept : List ℕ) → Line before next kept → command_of kept ≢ Some Quit
    → OfKept kept (λ text. CarriesBy (P s text) e s m out now)
    → SessionBy {A = A} P (Err e) s m.world before next out now
line_fails P Read s m before next out now kept (text, is, k, read) other carried = absurd (carried text k)
line_fails {A = A} P Memory s m before next out now kept (text, is, k, read) other carried =
    let (same, keeps) = carried text k in
    session_ends {A = A} P (Err Memory) s m.world before next out now
    (record {
      world = ap (λ (x : Debugged). x.world) same;
      line = text;
      go_on = (is, goes_on text kept (command_of kept) k refl other);
      read = read;
      written = keeps_all out now keeps;
    })
line_fails {A = A} P Write s m before next out now kept (text, is, k, read) other carried =
    let (answer, does, part) = carried text k in
    session_ends {A = A} P (Err Write) s m.world before next out now
    (inl (record {
      line = text;
      go_on = (is, goes_on text kept (command_of kept) k refl other);
      read = read;
      end = m;
      answer = answer;
      done = does;
      world = refl;
      answered = out;
      written = appends_none out;
      part = part;
    }))

-- then no read failed, since what carries lines out never says so
pub no_read_fails : (P : Doing) (e : DebugError) (s m : Debugged) (before next out now : Option (List ℕ)) (kept : List ℕ)
    (start end : ℕ) → Line before next kept → OfKept kept (λ text. CarriesBy (P s text) e s m out now) → end ≡ start
    → ReadsBy e start end
no_read_fails P Read s m before next out now kept start end (text, is, k, read) carried same = absurd (carried text k)
no_read_fails P Memory s m before next out now kept start end line carried same = same
no_read_fails P Write s m before next out now kept start end line carried same = same
