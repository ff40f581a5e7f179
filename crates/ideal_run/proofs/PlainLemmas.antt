-- completions without the births that are written on the way
use Rattle.std.proofs.Common.{◌≡◌, ℕ, List, Option, Some, None, Result, Ok, Err, refl, ap, ◌∙◌}
use Rattle.model.specs.declared.turns.Abrupt.{Abrupt}
use Rattle.model.specs.declared.turns.Abrupt.TheVariants.{Fault as Faulted, Throw}
use Rattle.model.specs.declared.turns.Exception.{Exception}
use Rattle.model.specs.declared.turns.Exception.TheVariants.{Arithmetic, NullPointer, ClassCast, NegativeArraySize}
use Rattle.model.specs.declared.turns.Exception.TheVariants.{ArrayStore, IllegalMonitorState, ArrayIndexOutOfBounds}
use Rattle.model.specs.declared.turns.Exception.TheVariants.{IllegalThreadState, StackOverflow, ExceptionInInitializer}
use Rattle.model.specs.declared.turns.Exception.TheVariants.{NoClassDefFound}
use Rattle.model.specs.Completions.{Completion, Site, completes, completes_abruptly, raises}
use Rattle.model.specs.Frames.{Moved}
use Rattle.model.specs.Table.Returns.{resumes}
use Rattle.model.specs.Table.Initialisation.{after_initialising}
use Rattle.model.specs.Table.Next.{Listed, by_family, class_used, at_site}
use Rattle.ideal_run.specs.declared.completions.Completion.{Completion as CodeCompletion}
use Rattle.ideal_run.specs.Claimed.{comes_before}
use Rattle.ideal_run.specs.Completed.{reported, plainly, completes_with, resumes_with}
use Rattle.ideal_run.specs.Reported.{frame_in}

pub plain-raises : (e : Exception) → raises e ≡ plainly (raises e)
plain-raises Arithmetic = refl
plain-raises NullPointer = refl
plain-raises ClassCast = refl
plain-raises NegativeArraySize = refl
plain-raises ArrayStore = refl
plain-raises IllegalMonitorState = refl
plain-raises ArrayIndexOutOfBounds = refl
plain-raises IllegalThreadState = refl
plain-raises StackOverflow = refl
plain-raises ExceptionInInitializer = refl
plain-raises NoClassDefFound = refl

pub plain-abrupt : (a : Abrupt) → completes_abruptly a ≡ plainly (completes_abruptly a)
plain-abrupt (Faulted fault) = refl
plain-abrupt (Throw exception) = plain-raises exception

pub plain-completes : (s : Site) (m : Result Moved Abrupt) → completes_with s (frame_in m) ≡ plainly (completes s m)
plain-completes s (Ok m) = refl
plain-completes s (Err abrupt) = plain-abrupt abrupt

pub plain-resumes : (s : Site) (m : Result Moved Abrupt) → resumes_with s (frame_in m) ≡ plainly (resumes s m)
plain-resumes s (Ok m) = refl
plain-resumes s (Err abrupt) = plain-abrupt abrupt

-- ---- what comes before an instruction's own case

pub site-before : (s : Site) (i : Listed) (class : Option (List ℕ)) (c : CodeCompletion)
    → class ≡ class_used s.program i → ((own : Completion) → comes_before s (Some c) own
    ≡ plainly (after_initialising s class own)) → reported s.world s.thread c ≡ plainly (at_site s i)
site-before s i class c class-is before = before (by_family s i)
    ∙ ap (λ (o : Option (List ℕ)). plainly (after_initialising s o (by_family s i))) class-is

pub site-own : (s : Site) (i : Listed) (class : Option (List ℕ)) (c : CodeCompletion) → class ≡ class_used s.program i
    → ((own : Completion) → comes_before s None own ≡ plainly (after_initialising s class own))
    → reported s.world s.thread c ≡ plainly (by_family s i) → reported s.world s.thread c ≡ plainly (at_site s i)
site-own s i class c class-is before own = own
    ∙ (before (by_family s i) ∙ ap (λ (o : Option (List ℕ)). plainly (after_initialising s o (by_family s i))) class-is)

pub ruleset plain = (site-before, site-own, plain-raises, plain-abrupt, plain-completes, plain-resumes)
