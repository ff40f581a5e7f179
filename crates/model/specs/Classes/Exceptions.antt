use Rattle.std.specs.Prelude.{ℕ, List, codes}
use Rattle.model.specs.declared.turns.Exception.{Exception}
use Rattle.model.specs.declared.turns.Exception.TheVariants.{Arithmetic, NullPointer, ClassCast, NegativeArraySize}
use Rattle.model.specs.declared.turns.Exception.TheVariants.{ArrayStore, IllegalMonitorState, ArrayIndexOutOfBounds}
use Rattle.model.specs.declared.turns.Exception.TheVariants.{IllegalThreadState, StackOverflow, ExceptionInInitializer}
use Rattle.model.specs.declared.turns.Exception.TheVariants.{NoClassDefFound}

-- the class of an exception that the machine makes
abbrev pub exception_class : Exception → List ℕ
exception_class Arithmetic = codes "java/lang/ArithmeticException"
exception_class NullPointer = codes "java/lang/NullPointerException"
exception_class ClassCast = codes "java/lang/ClassCastException"
exception_class NegativeArraySize = codes "java/lang/NegativeArraySizeException"
exception_class ArrayStore = codes "java/lang/ArrayStoreException"
exception_class IllegalMonitorState = codes "java/lang/IllegalMonitorStateException"
exception_class ArrayIndexOutOfBounds = codes "java/lang/ArrayIndexOutOfBoundsException"
exception_class IllegalThreadState = codes "java/lang/IllegalThreadStateException"
exception_class StackOverflow = codes "java/lang/StackOverflowError"
exception_class ExceptionInInitializer = codes "java/lang/ExceptionInInitializerError"
exception_class NoClassDefFound = codes "java/lang/NoClassDefFoundError"
