-- What only the code's own contracts say. No public clause needs it.
pub mod Due
