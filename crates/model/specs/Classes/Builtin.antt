use Rattle.std.specs.Prelude.{ℕ, List, [], ◌∷◌, None, codes}
use Rattle.model.specs.declared.listings.Method.{Method}
use Rattle.model.specs.ClassListings.{ClassListing}

-- The machine's own classes, as listings: public, without interfaces and fields, and with native methods.

abbrev pub native : ℕ → List ℕ → List ℕ → Method
native flags name descriptor = record {
  flags = record { 0 = flags };
  name = name;
  descriptor = descriptor;
  code = None;
}

-- public native, and public static native
abbrev pub instance_method : List ℕ → List ℕ → Method
instance_method = native 0x0101

abbrev pub static_method : List ℕ → List ℕ → Method
static_method = native 0x0109

abbrev pub initializer : Method
initializer = instance_method (codes "<init>") (codes "()V")

abbrev pub builtin_class : List ℕ → List ℕ → List Method → ClassListing
builtin_class name superclass methods = record {
  name = name;
  flags = record { 0 = 1 };
  superclass = superclass;
  interfaces = [];
  fields = [];
  methods = methods;
}

-- a class with an initializer and no other method
abbrev pub plain_class : List ℕ → List ℕ → ClassListing
plain_class name superclass = builtin_class name superclass (initializer ∷ [])

-- starting a thread, what it runs, and waiting for its end
abbrev pub thread_methods : List Method
thread_methods =
    initializer ∷ instance_method (codes "run") (codes "()V") ∷ instance_method (codes "start") (codes "()V") ∷
    instance_method (codes "join") (codes "()V") ∷ []

-- printing an int, a long and a byte
abbrev pub print_methods : List Method
print_methods =
    static_method (codes "print") (codes "(I)V") ∷ static_method (codes "printl") (codes "(J)V") ∷
    static_method (codes "putc") (codes "(I)V") ∷ []

-- Object has no superclass: the empty name is no class's
unfoldable pub builtin_classes : List ClassListing
builtin_classes =
    plain_class (codes "java/lang/Object") [] ∷
    plain_class (codes "java/lang/Throwable") (codes "java/lang/Object") ∷
    plain_class (codes "java/lang/Exception") (codes "java/lang/Throwable") ∷
    plain_class (codes "java/lang/Error") (codes "java/lang/Throwable") ∷
    plain_class (codes "java/lang/RuntimeException") (codes "java/lang/Exception") ∷
    plain_class (codes "java/lang/ArithmeticException") (codes "java/lang/RuntimeException") ∷
    plain_class (codes "java/lang/NullPointerException") (codes "java/lang/RuntimeException") ∷
    plain_class (codes "java/lang/ClassCastException") (codes "java/lang/RuntimeException") ∷
    plain_class (codes "java/lang/NegativeArraySizeException") (codes "java/lang/RuntimeException") ∷
    plain_class (codes "java/lang/ArrayStoreException") (codes "java/lang/RuntimeException") ∷
    plain_class (codes "java/lang/IllegalMonitorStateException") (codes "java/lang/RuntimeException") ∷
    plain_class (codes "java/lang/IndexOutOfBoundsException") (codes "java/lang/RuntimeException") ∷
    plain_class (codes "java/lang/ArrayIndexOutOfBoundsException") (codes "java/lang/IndexOutOfBoundsException") ∷
    plain_class (codes "java/lang/IllegalArgumentException") (codes "java/lang/RuntimeException") ∷
    plain_class (codes "java/lang/IllegalThreadStateException") (codes "java/lang/IllegalArgumentException") ∷
    plain_class (codes "java/lang/VirtualMachineError") (codes "java/lang/Error") ∷
    plain_class (codes "java/lang/OutOfMemoryError") (codes "java/lang/VirtualMachineError") ∷
    plain_class (codes "java/lang/StackOverflowError") (codes "java/lang/VirtualMachineError") ∷
    plain_class (codes "java/lang/LinkageError") (codes "java/lang/Error") ∷
    plain_class (codes "java/lang/ExceptionInInitializerError") (codes "java/lang/LinkageError") ∷
    plain_class (codes "java/lang/NoClassDefFoundError") (codes "java/lang/LinkageError") ∷
    builtin_class (codes "java/lang/Thread") (codes "java/lang/Object") thread_methods ∷
    builtin_class (codes "vm/Sys") (codes "java/lang/Object") print_methods ∷ []
