use Rattle.std.proofs.Common.{◌≡◌, ◌++◌, drop}
use Rattle.debug_texts.specs.Answers.{frames_text}
use Rattle.debug_texts.proofs.frames.write_frames.Given as goal

-- the frames that stand further in come before the text so far
abbrev pub invariant-loop-depth : goal.invariant-loop-depth
invariant-loop-depth l = l.text.items ≡ l.fn.text.items ++ frames_text l.program l.depth (drop l.depth l.frames)
